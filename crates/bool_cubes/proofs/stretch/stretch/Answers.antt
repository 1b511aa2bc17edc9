use Rattle.std.proofs.Common.{arith, subst, sym, ◌+◌, ◌∙◌}
use Rattle.bool_cubes.specs.Held.{AreHeld}
use Rattle.bool_cubes.specs.Nodes.{tree_at}
use Rattle.bool_cubes.proofs.Holding.{contradicts_itself}
use Rattle.bool_cubes.proofs.stretch.stretch.Goals as goal

pub returns-clause-stretch : goal.returns-clause-stretch
returns-clause-stretch c =
    let ns = c.args.nodes.now in
    let k = c.requires.known in
    let w = c.scan.ensures.within in
    let held = subst (λ m. AreHeld ns k.literals m) (sym (c.in_ok-marks.ensures ∙ c.as_slice.ensures)) k.held in
    λ d l. contradicts_itself (tree_at ns c.args.root) k.literals (c.args.number + d) k.forced (omega (arith, w, l)) (c.scan.ensures.stretch k.literals held k.dead d l)
