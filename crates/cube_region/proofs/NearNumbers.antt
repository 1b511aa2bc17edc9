-- Numbers near 0, and the sides that hold them.
use Rattle.std.proofs.Common.{◌≡◌, refl, true, false, Bool, ℕ, ◌+◌, ◌-◌, ◌/◌, ◌%◌, ◌^◌, ◌<◌, ◌≤◌, max, ℤ, pos, neg_ℤ, ◌-ℤ◌, ◌≤ℤ◌, arith}
use Rattle.std.specs.Prelude.{int_le, nat_eq, unsigned_abs, if◌then◌else◌}
use Rattle.std.proofs.Common.{inl, inr}
use Rattle.std.proofs.lemmas.Int.{ints}
use Rattle.std.proofs.lemmas.Bool.{cases_lt}
use Rattle.std.proofs.Math.Nat.{pow-le-pow_left}
use Rattle.search_hits.specs.Regions.{IsWithin, greatest_amount, side_points}
use Rattle.cube_region.specs.Bounding.{near_bounds}
use Rattle.cube_region.specs.Regions.{IsNearSide, near_number}

halves : (s i : ℕ) → i < s → (i / 2 ≤ (s - 1) / 2) × ((i + 1) / 2 ≤ s / 2)
halves s i h = (omega arith, omega arith)

near-by : (b : Bool) (low high i j : ℕ) → i ≤ low → j ≤ high → IsWithin (neg_ℤ (pos low), pos high) (if b then neg_ℤ (pos i) else pos j)
near-by true low high i j h k = (omega (arith, ints), omega (arith, ints))
near-by false low high i j h k = (omega (arith, ints), omega (arith, ints))

pub near-within : (s i : ℕ) → i < s → IsWithin (near_bounds s) (near_number i)
near-within s i h = let k = halves s i h in near-by (nat_eq (i % 2) 0) ((s - 1) / 2) (s / 2) (i / 2) ((i + 1) / 2) k.0 k.1

points-by : (b : Bool) (l u : ℤ) (s : ℕ) → l ≤ℤ u → int_le l u ≡ b → unsigned_abs (u -ℤ l) + 1 ≡ s → (if b then unsigned_abs (u -ℤ l) + 1 else 1) ≡ s
points-by true l u s h b e = e
points-by false l u s h b e = absurd (grind (arith, ints))

pub near-points : (s : ℕ) → 1 ≤ s → side_points (near_bounds s) ≡ s
near-points s h =
    let e : unsigned_abs (pos (s / 2) -ℤ neg_ℤ (pos ((s - 1) / 2))) + 1 ≡ s = omega (arith, ints) in
    points-by (int_le (neg_ℤ (pos ((s - 1) / 2))) (pos (s / 2))) (neg_ℤ (pos ((s - 1) / 2))) (pos (s / 2)) s (omega (arith, ints)) refl e

amount-by : (b : Bool) (m n k : ℕ) → m ≤ k → n ≤ k → (if b then max m n else 0) ≤ k
amount-by true m n k g h = omega arith
amount-by false m n k g h = omega arith

pub near-amount : (s : ℕ) → greatest_amount (near_bounds s) ≤ s / 2
near-amount s = amount-by (int_le (neg_ℤ (pos ((s - 1) / 2))) (pos (s / 2))) (unsigned_abs (neg_ℤ (pos ((s - 1) / 2)))) (s / 2) (s / 2) (omega (arith, ints)) (omega arith)

-- of two such numbers none is the greater one
near-not-less : (count s t : ℕ) → IsNearSide count s → IsNearSide count t → s < t → ⊥
near-not-less count s t a b h =
    let k : (s + 1) ^ count ≤ t ^ count = pow-le-pow_left {n = s + 1} {m = t} (omega arith) count in
    let g = a.greatest in
    let w = b.within in
    omega arith

pub near-side-one : (count s t : ℕ) → IsNearSide count s → IsNearSide count t → s ≡ t
near-side-one count s t a b = elim (cases_lt s t) [
  | inl h ↦ absurd (near-not-less count s t a b h)
  | inr h ↦ elim (cases_lt t s) [
    | inl k ↦ absurd (near-not-less count t s b a k)
    | inr k ↦ omega arith
  ]
]
