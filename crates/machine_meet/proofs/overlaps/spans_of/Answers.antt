use Rattle.std.proofs.Common.{length, refl, rules}
use Rattle.std.proofs.lemmas.List.Sorted.{IsNonDecreasingBy-from_sort_by_key}
use Rattle.std.proofs.lemmas.Option.{slice_get_read}
use Rattle.machine_meet.specs.declared.overlaps.MoveInterval.{MoveInterval}
use Rattle.machine_meet.proofs.OverlapLemmas.{spans-more, spans-done}
use Rattle.machine_meet.proofs.overlaps.spans_of.Goals as goal

pub loop-place-preserved : goal.loop-place-preserved
loop-place-preserved g c =
    let at = slice_get_read c.args.moves.now (length c.args.moves.now) c.loop-place.place c.index-moves-place.result refl c.loop-place-test.true c.index-moves-place.is in
    spans-more c.args.moves.now c.loop-place.spans.items c.push_spans.new.spans.items c.loop-place.place c.index-moves-place.result at
    c.in_ok-push_spans.ensures.forward c.in_ok-push_spans.ensures.ok c.loop-place.invariant

pub returns-clause-order : goal.returns-clause-order
returns-clause-order g c = IsNonDecreasingBy-from_sort_by_key (λ (s : MoveInterval). s.low) _ c.sort_unstable_by_key.ensures.sorted (λ a r q k. search rules)

pub returns-clause-exact : goal.returns-clause-exact
returns-clause-exact g c = spans-done c.args.moves.now c.loop-place.spans.items c.sort_unstable_by_key.new.self.items c.loop-place.place c.loop-place-test.false
    c.sort_unstable_by_key.ensures.permutation c.loop-place.invariant
