use Rattle.std.proofs.Common.{◌∙◌, ap, length, subst, sym}
use Rattle.std.specs.Prelude.{ℕ}
use Rattle.flat_cubes.specs.Flattening.{IsCycle, NoneTwice}
use Rattle.flat_cubes.specs.Straight.{HaveVariablesBelow}
use Rattle.straight_line.specs.Tracing.{HasPlaces}
use Rattle.straight_line.specs.Waiting.{AheadUsesAhead, HaveOnce, IsAhead, IsSorted, picked}
use Rattle.straight_line.proofs.Traced.{sorted_whole}
use Rattle.straight_line.proofs.straightening.straighten.Goals as goal

pub returns-in-Some : goal.returns-in-Some
returns-in-Some c = (subst (λ z. NoneTwice z) c.as_slice.ensures c.in_ok-places.ensures.3, subst (λ z. IsCycle z c.in_ok-cycle.cycle) c.as_slice-in-Some.ensures c.in_ok-cycle.ensures)

pub returns : goal.returns
returns c =
    let sorted = subst (λ z. IsSorted z c.in_ok-sorted.sorted.places c.in_ok-sorted.sorted.ahead) c.as_slice-2.ensures c.in_ok-sorted.ensures.sorted in
    let none = subst (λ z. (v : ℕ) → IsAhead z v → ⊥) c.as_slice-3.ensures c.in_default.ensures in
    let whole = sorted_whole c.args.definitions c.in_ok-arrange.field-0 c.in_ok-sorted.sorted.places c.in_ok-sorted.sorted.ahead sorted none (c.in_ok-arrange.ensures ∙ ap (picked c.args.definitions) c.as_slice-4.ensures) in
    (whole.0, whole.1, subst (λ z. HaveOnce z) c.as_slice.ensures c.in_ok-places.ensures.2, subst (λ z. NoneTwice z) c.as_slice.ensures c.in_ok-places.ensures.3)

pub sort-requires-clause-within : goal.sort-requires-clause-within
sort-requires-clause-within c = subst (λ z. HaveVariablesBelow c.args.variables z) (sym c.as_slice-2.ensures) c.requires

pub sort-requires-clause-once : goal.sort-requires-clause-once
sort-requires-clause-once c = subst (λ z. HaveOnce z) (c.as_slice.ensures ∙ sym c.as_slice-2.ensures) c.in_ok-places.ensures.2

pub cycle-requires-clause-within : goal.cycle-requires-clause-within
cycle-requires-clause-within c = subst (λ n. HaveVariablesBelow n c.as_slice-in-Some.result.now) (sym (ap length c.as_slice-in-Some-3.ensures ∙ c.in_ok-sorted.ensures.count)) (subst (λ z. HaveVariablesBelow c.args.variables z) (sym c.as_slice-in-Some.ensures) c.requires)

pub cycle-requires-clause-count : goal.cycle-requires-clause-count
cycle-requires-clause-count c = ap length c.as_slice-in-Some-2.ensures ∙ c.in_ok-places.ensures.0 ∙ sym (ap length c.as_slice-in-Some-3.ensures ∙ c.in_ok-sorted.ensures.count)

pub cycle-requires-clause-places : goal.cycle-requires-clause-places
cycle-requires-clause-places c = subst (λ z. HasPlaces z c.as_slice-in-Some-2.result.now) (c.as_slice.ensures ∙ sym c.as_slice-in-Some.ensures) (subst (λ z. HasPlaces c.as_slice.result.now z) (sym c.as_slice-in-Some-2.ensures) c.in_ok-places.ensures.1)

pub cycle-requires-clause-closed : goal.cycle-requires-clause-closed
cycle-requires-clause-closed c = subst (λ z. AheadUsesAhead z c.as_slice-in-Some-3.result.now) (c.as_slice-2.ensures ∙ sym c.as_slice-in-Some.ensures) (subst (λ z. AheadUsesAhead c.as_slice-2.result.now z) (sym c.as_slice-in-Some-3.ensures) c.in_ok-sorted.ensures.sorted.closed)

pub cycle-requires-clause-start : goal.cycle-requires-clause-start
cycle-requires-clause-start c = subst (λ z. IsAhead z c.in-Some.start) (c.as_slice-3.ensures ∙ sym c.as_slice-in-Some-3.ensures) c.in-Some.ensures
