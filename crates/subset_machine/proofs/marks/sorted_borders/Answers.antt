use Rattle.std.proofs.Common.{◌+◌, ◌≡◌, take, get_or, refl, subst, arith}
use Rattle.std.proofs.lemmas.List.{take_all}
use Rattle.std.proofs.lemmas.List.Elements.{Contains-get_or}
use Rattle.std.proofs.lemmas.List.Sorted.{IsNonDecreasingBy-from_sort}
use Rattle.subset_machine.specs.declared.leaving.EdgeRange.{EdgeRange}
use Rattle.subset_machine.proofs.HitLemmas.{one-more}
use Rattle.subset_machine.proofs.MarkLemmas.{AreListed, listed-none, listed-more, borders-made}
use Rattle.subset_machine.proofs.marks.sorted_borders.Goals as goal

abbrev none : EdgeRange
none = record { low = 0; high = 0; to = 0 }

pub overflow_add-leg : goal.overflow_add-leg
overflow_add-leg c =
    let range = c.requires _ (Contains-get_or c.args.legs.now c.loop-leg.leg-index none c.loop-leg-test.true) in
    let high = range.1 in
    omega arith

pub loop-leg-init : goal.loop-leg-init
loop-leg-init c = rw c.in_ok-borders.ensures.items listed-none

pub loop-leg-preserved : goal.loop-leg-preserved
loop-leg-preserved c =
    let legs = c.args.legs.now in
    let i = c.loop-leg.leg-index in
    let leg = get_or legs i none in
    listed-more (take i legs) (take (i + 1) legs) leg c.loop-leg.borders.items _ _ (one-more legs i leg none c.loop-leg-test.true refl)
    (c.requires leg (Contains-get_or legs i none c.loop-leg-test.true)) c.in_ok-push.ensures.items c.in_ok-push-2.ensures.items c.loop-leg.invariant

pub returns : goal.returns
returns c =
    let legs = c.args.legs.now in
    let all : take c.loop-leg.leg-index legs ≡ legs = take_all c.loop-leg.leg-index legs c.loop-leg-test.false in
    borders-made legs c.loop-leg.borders.items _ c.sort_unstable.new.self.items (subst (λ l. AreListed l c.loop-leg.borders.items) all c.loop-leg.invariant)
    c.in_ok-push-3.ensures.items c.sort_unstable.ensures.permutation (IsNonDecreasingBy-from_sort (λ b. b) c.sort_unstable.new.self.items c.sort_unstable.ensures.sorted)
