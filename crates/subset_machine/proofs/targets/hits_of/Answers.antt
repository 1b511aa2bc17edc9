use Rattle.std.proofs.Common.{get_or, refl}
use Rattle.subset_machine.specs.declared.leaving.EdgeRange.{EdgeRange}
use Rattle.subset_machine.proofs.HitLemmas.{hits-more, hits-done}
use Rattle.subset_machine.proofs.targets.hits_of.Goals as goal

pub loop-leg-preserved : goal.loop-leg-preserved
loop-leg-preserved c =
    let none : EdgeRange = record { low = 0; high = 0; to = 0 } in
    hits-more c.args.legs.now c.args.marks.now c.between.result.now c.loop-leg.hits.items c.push_hits.new.hits.items c.loop-leg.leg-index
    (get_or c.args.legs.now c.loop-leg.leg-index none) none c.loop-leg-test.true refl c.between.ensures c.in_ok-push_hits.ensures c.loop-leg.invariant

pub returns : goal.returns
returns c = hits-done c.args.legs.now c.args.marks.now c.loop-leg.hits.items c.sort_unstable.new.self.items c.loop-leg.leg-index c.loop-leg-test.false
    c.loop-leg.invariant c.sort_unstable.ensures.permutation c.sort_unstable.ensures.sorted
