use Rattle.std.proofs.Common.{◌≡◌, ◌+◌, ◌++◌, ◌∷◌, [], suc, subst, ap, ◌∙◌, arith}
use Rattle.replace_machines.specs.Edges.{AreEnds}
use Rattle.replace_machines.proofs.EdgeLemmas.{ends_more}
use Rattle.replace_machines.proofs.edges.held_ends.Goals as goal

pub loop-q-preserved : goal.loop-q-preserved
loop-q-preserved c =
    let q = c.loop-q.q in
    let p = c.args.pattern.now in
    let one : suc q ≡ q + 1 = omega arith in
    subst (λ n. AreEnds p n c.push.new.self) one
    (ends_more p q c.loop-q.ends c.push.new.self c.loop-q.invariant (c.in_ok-push.ensures.ok ∙ ap (λ w. c.loop-q.ends ++ (q, w) ∷ []) c.in_ok-prefix.ensures))
