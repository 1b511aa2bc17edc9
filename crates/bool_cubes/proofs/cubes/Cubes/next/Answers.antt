use Rattle.std.proofs.Common.{ap, arith, sym, ◌∙◌}
use Rattle.bool_cubes.specs.Nodes.{tree_at}
use Rattle.bool_cubes.specs.Picking.{cube_at}
use Rattle.bool_cubes.proofs.Gathered.{none_left, one_given}
use Rattle.bool_cubes.proofs.cubes.Cubes.next.Goals as goal

pub returns-then-self-clause-next : goal.returns-then-self-clause-next
returns-then-self-clause-next c =
    let e = sym c.self.view_is ∙ none_left c.self.inside.nodes c.self.inside.root c.self.inside.count c.self.inside.given c.self.invariant.0 (omega arith) in
    (e, e)

pub returns-clause-next : goal.returns-clause-next
returns-clause-next c =
    sym c.self.view_is
    ∙ one_given c.self.inside.nodes c.self.inside.root c.self.inside.count c.self.inside.given c.in_ok-literals.literals c.self.invariant.0 (omega arith) (c.in_ok-literals.ensures ∙ ap (λ ns. cube_at (tree_at ns c.self.inside.root) c.self.inside.given) c.as_slice.ensures)
