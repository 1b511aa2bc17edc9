use Rattle.std.proofs.Common.{◌≡◌, ℕ, ◌+◌, ◌<◌, ◌≤◌, inl, inr, List, Some, length, slice_get, slice_index, get_or, ap, sym, ◌∙◌, subst, arith}
use Rattle.std.proofs.lemmas.Option.{slice_get-get_or, slice_get_within, same_Some}
use Rattle.std.proofs.lemmas.Bool.{cases_lt}
use Rattle.parikh_flow.proofs.tour.next_left.Goals as goal

-- one place more whose edge isn't left
none-more : (row left : List ℕ) (from i : ℕ) → i < length row → slice_index left (get_or row i 0) ≡ 0
    → ((k q : ℕ) → from ≤ k → k < i → slice_get row k ≡ Some q → slice_index left q ≡ 0)
    → (k q : ℕ) → from ≤ k → k < i + 1 → slice_get row k ≡ Some q → slice_index left q ≡ 0
none-more row left from i lt none before k q le less e = elim (cases_lt k i) [
  | inl l ↦ before k q le l e
  | inr m ↦ let same : i ≡ k = omega arith in subst (λ p. slice_index left p ≡ 0) (same_Some (get_or row i 0) q (sym (slice_get-get_or row i 0 lt) ∙ ap (slice_get row) same ∙ e)) none
]

pub bounds-left-row : goal.bounds-left-row
bounds-left-row c = c.requires c.loop-i.i _ (slice_get-get_or c.args.row.now c.loop-i.i 0 c.loop-i-test.true)

pub loop-i-preserved : goal.loop-i-preserved
loop-i-preserved c =
    let none : slice_index c.args.left.now (get_or c.args.row.now c.loop-i.i 0) ≡ 0 = (let test = c.if-left-row-gt0.false in omega arith) in
    none-more c.args.row.now c.args.left.now c.args.from c.loop-i.i c.loop-i-test.true none c.loop-i.invariant

pub returns-then-left-row-gt0 : goal.returns-then-left-row-gt0
returns-then-left-row-gt0 c = (get_or c.args.row.now c.loop-i.i 0, slice_get-get_or c.args.row.now c.loop-i.i 0 c.loop-i-test.true, c.if-left-row-gt0.true, c.loop-i.invariant)

pub returns : goal.returns
returns c = λ k q le e.
    let below = slice_get_within c.args.row.now k q e in
    let test = c.loop-i-test.false in
    c.loop-i.invariant k q le (omega arith) e
