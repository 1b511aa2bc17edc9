use Rattle.std.proofs.Common.{ℕ, map, ap, sym, ◌∙◌, subst}
use Rattle.std.proofs.lemmas.List.{take_all}
use Rattle.subset_machine.specs.Subsets.{ListsAll}
use Rattle.std.proofs.Common.{Contains}
use Rattle.subset_machine.proofs.HitLemmas.{mapped-more, target-made}
use Rattle.subset_machine.proofs.targets.target.Goals as goal

pub returns : goal.returns
returns c =
    let part = c.between-found.result.now in
    let made = c.loop-hit.invariant ∙ ap (map (λ (h : ℕ × ℕ). h.1)) (take_all c.loop-hit.hit-index part c.loop-hit-test.false) in
    subst (ListsAll (λ t. Contains c.args.hits.now (c.args.first, t))) (sym c.from_vec.ensures)
    (target-made c.args.hits.now part c.args.first c.loop-hit.states.items c.sort_unstable.new.self.items c.dedup.new.self.items
    c.between-found.ensures made c.sort_unstable.ensures.permutation c.sort_unstable.ensures.sorted c.dedup.ensures.filtered)

pub loop-hit-preserved : goal.loop-hit-preserved
loop-hit-preserved c = mapped-more (λ (h : ℕ × ℕ). h.1) c.between-found.result.now c.loop-hit.hit-index (0, 0) c.loop-hit.states.items c.push.new.self.items c.loop-hit-test.true c.loop-hit.invariant c.in_ok-push.ensures.items
