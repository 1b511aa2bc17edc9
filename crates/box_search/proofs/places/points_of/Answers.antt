use Rattle.std.proofs.Common.{◌≡◌, ◌+◌, ◌-◌, ◌*◌, ◌^◌, drop, slice_index_or, inl, inr, ap, ◌∙◌, arith}
use Rattle.std.proofs.lemmas.Bool.{cases_lt}
use Rattle.box_search.specs.Places.{numbers_below}
use Rattle.box_search.proofs.PlaceLemmas.{past-digit, past-points}
use Rattle.box_search.proofs.places.points_of.Goals as goal

pub returns-in_default : goal.returns-in_default
returns-in_default c =
    past-digit c.args.uppers.now c.loop-at.at c.loop-at-test.true c.loop-at.invariant.within (2 ^ 64)
    (elim (cases_lt (slice_index_or c.args.uppers.now (c.loop-at.at - 1) 0 + 1) (2 ^ 64)) [ inl lt ↦ absurd (c.in_default.ensures lt) | inr ge ↦ omega arith ])

pub returns-in_default-checked_mul : goal.returns-in_default-checked_mul
returns-in_default-checked_mul c =
    let at = c.loop-at.at in
    let us = c.args.uppers.now in
    let base : c.in-Some.base ≡ slice_index_or us (at - 1) 0 + 1 = c.in-Some.ensures.1 in
    let whole : c.in-Some.base * c.loop-at.points ≡ (slice_index_or us (at - 1) 0 + 1) * numbers_below (drop at us) = ap (λ n. n * c.loop-at.points) base ∙ ap (λ n. (slice_index_or us (at - 1) 0 + 1) * n) c.loop-at.invariant.points in
    past-points us at c.loop-at-test.true c.loop-at.invariant.within (2 ^ 64)
    (elim (cases_lt (c.in-Some.base * c.loop-at.points) (2 ^ 64)) [ inl lt ↦ absurd (c.in_default-checked_mul.ensures lt) | inr ge ↦ omega arith ])
