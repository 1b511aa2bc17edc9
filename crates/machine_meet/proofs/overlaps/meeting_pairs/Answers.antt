use Rattle.std.proofs.Common.{ℕ, List, ◌++◌, map, ap, sym, ◌∙◌, subst}
use Rattle.std.specs.List.Sorted.{IsNonDecreasingBy}
use Rattle.machine_meet.specs.declared.overlaps.MoveInterval.{MoveInterval}
use Rattle.machine_meet.proofs.OverlapLemmas.{AreBegun, swapped, meeting-done}
use Rattle.machine_meet.proofs.overlaps.meeting_pairs.Goals as goal

pub returns : goal.returns
returns g c =
    let hs = c.in_ok-heads.heads.items in
    let ts = c.in_ok-tails.tails.items in
    let pairs = c.in_ok-pairs.pairs.items in
    let others = c.in_ok-others.others.items in
    let first : AreBegun hs ts pairs =
    subst (λ (l : List MoveInterval). AreBegun l ts pairs) c.as_slice.ensures.value (subst (λ (l : List MoveInterval). AreBegun c.as_slice.result.now l pairs) c.as_slice-2.ensures.value c.in_ok-pairs.ensures) in
    let second : AreBegun ts hs others =
    subst (λ (l : List MoveInterval). AreBegun l hs others) c.as_slice-3.ensures.value (subst (λ (l : List MoveInterval). AreBegun c.as_slice-3.result.now l others) c.as_slice-4.ensures.value c.in_ok-others.ensures) in
    let made = c.in_ok-push_turned.ensures ∙ ap (λ (l : List (ℕ × ℕ)). pairs ++ map swapped l) c.as_slice-5.ensures.value in
    meeting-done c.args.heads.now c.args.tails.now hs ts pairs others c.push_turned.new.pairs.items c.sort_unstable.new.self.items c.dedup.new.self.items
    c.in_ok-heads.ensures.exact c.in_ok-tails.ensures.exact first second made c.sort_unstable.ensures.permutation c.dedup.ensures.filtered

pub pair_within-requires : goal.pair_within-requires
pair_within-requires g c = subst (IsNonDecreasingBy (λ (s : MoveInterval). s.low)) (sym c.as_slice-2.ensures.value) c.in_ok-tails.ensures.order

pub pair_within-requires-2 : goal.pair_within-requires-2
pair_within-requires-2 g c = subst (IsNonDecreasingBy (λ (s : MoveInterval). s.low)) (sym c.as_slice-4.ensures.value) c.in_ok-heads.ensures.order
