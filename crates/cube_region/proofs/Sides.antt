-- One side of the box: what it holds, how many values it has, and how large they are.
use Rattle.std.proofs.Common.{◌≡◌, refl, ap, sym, subst, ◌∙◌, true, false, Bool, ℕ, ◌+◌, ◌<◌, ◌≤◌, max, ℤ, pos, negsuc, ◌-ℤ◌, ◌≤ℤ◌, Option, Some, None, arith}
use Rattle.std.specs.Prelude.{int_lt, int_le, unsigned_abs, if◌then◌else◌}
use Rattle.std.specs.Option.{option_map}
use Rattle.std.proofs.lemmas.Int.{ints}
use Rattle.sv_terms.specs.CutOff.{cut_off}
use Rattle.search_hits.specs.Regions.{IsWithin, greatest_amount, side_points, whole_side}
use Rattle.cube_bounds.specs.Sides.{Side, amount, both_sides, side_amount, values_between}
use Rattle.cube_region.specs.Bounding.{integer_bounds, no_total, register_bounds}
use Rattle.sv_terms.specs.declared.limits.TheConstants.{MOST_POINTS}

-- a side with few values
pub record IsFew (side : Side) : Type 0 where
  pub bounds : ℤ × ℤ
  pub is : side ≡ Some bounds
  pub few : values_between bounds ≤ MOST_POINTS

-- a side of a register, from 0 on
pub record IsFromZero (side : Side) : Type 0 where
  pub most : ℤ
  pub is : side ≡ Some (pos 0, most)
  pub few : values_between (pos 0, most) ≤ MOST_POINTS

not-few : IsFew None → ⊥
not-few h = let e = h.is in cc

not-below : (m : ℕ) → int_lt (pos m) (pos 0) ≡ false
not-below m = by_test (int_lt (pos m) (pos 0)) refl
  where
    by_test : (b : Bool) → int_lt (pos m) (pos 0) ≡ b → int_lt (pos m) (pos 0) ≡ false
    by_test true e = absurd (grind (arith, ints))
    by_test false e = e

bounds-up-to : (m : ℕ) → ◌≡◌ {A = ℕ × ℕ} (register_bounds (Some (pos 0, pos m))) (0, cut_off m)
bounds-up-to m = ap (λ (b : Bool). if b then no_total else (0, cut_off m)) (not-below m)

values-up-to : (m : ℕ) → values_between (pos 0, pos m) ≡ m + 1
values-up-to m = ap (λ (b : Bool). if b then 1 else unsigned_abs (pos m -ℤ pos 0) + 1) (not-below m) ∙ omega (arith, ints)

amount-up-to : (m : ℕ) → amount (pos 0, pos m) ≡ m
amount-up-to m = ap (λ (b : Bool). if b then 0 else max (unsigned_abs (pos 0)) (unsigned_abs (pos m))) (not-below m) ∙ omega arith

pub from-zero : (o : Option ℤ) → IsFew (option_map (λ z. (pos 0, z)) o) → IsFromZero (option_map (λ z. (pos 0, z)) o)
from-zero None h = absurd (not-few h)
from-zero (Some z) h = record { most = z; is = refl; few = subst (λ b. values_between b ≤ MOST_POINTS) (sym (same (pos 0, z) h.bounds h.is)) h.few }
  where
    same : (a b : ℤ × ℤ) → Some a ≡ Some b → a ≡ b
    same a b e = cc

-- how far a side from 0 reaches
reach-of : (m : ℕ) → values_between (pos 0, pos m) ≤ MOST_POINTS → (m < MOST_POINTS) × (cut_off m ≡ m)
reach-of m h = let e = values-up-to m in (omega arith, omega arith)

within-up-to : (m n : ℕ) → n ≤ m → values_between (pos 0, pos m) ≤ MOST_POINTS → IsWithin (whole_side (register_bounds (Some (pos 0, pos m)))) (pos n)
within-up-to m n h f =
    let r = (reach-of m f).1 in
    subst (λ (s : ℕ × ℕ). IsWithin (whole_side s) (pos n)) (sym (bounds-up-to m)) (omega (arith, ints), omega (arith, ints))

-- the values of a side
abbrev side_values : Side → ℕ
side_values None = 0
side_values (Some s) = values_between s

pub register-within : (o : Option ℤ) (n : ℕ) → ((z : ℤ) → o ≡ Some z → pos n ≤ℤ z) → IsFew (option_map (λ z. (pos 0, z)) o) → IsWithin (whole_side (register_bounds (option_map (λ z. (pos 0, z)) o))) (pos n)
register-within None n h f = absurd (not-few f)
register-within (Some (pos m)) n h f =
    let l = h (pos m) refl in
    let k : values_between (pos 0, pos m) ≤ MOST_POINTS = subst (λ (s : Side). side_values s ≤ MOST_POINTS) (sym f.is) f.few in
    within-up-to m n (omega (arith, ints)) k
register-within (Some (negsuc m)) n h f = absurd (let k = h (negsuc m) refl in omega (arith, ints))

pub integer-within : (l u : Option ℤ) (x : ℤ) → ((z : ℤ) → l ≡ Some z → z ≤ℤ x) → ((z : ℤ) → u ≡ Some z → x ≤ℤ z) → IsFew (both_sides l u) → IsWithin (integer_bounds (both_sides l u)) x
integer-within None u x g h f = absurd (not-few f)
integer-within (Some l) None x g h f = absurd (not-few f)
integer-within (Some l) (Some u) x g h f = (g l refl, h u refl)

-- how many values the bounds count
most-points : (z : ℤ) → values_between (pos 0, z) ≤ MOST_POINTS → (register_bounds (Some (pos 0, z))).1 + 1 ≡ values_between (pos 0, z)
most-points (pos m) h = ap (λ (s : ℕ × ℕ). s.1 + 1) (bounds-up-to m) ∙ ap (λ n. n + 1) (reach-of m h).1 ∙ sym (values-up-to m)
most-points (negsuc m) h = refl

pub register-points : (s : Side) (h : IsFromZero s) → (register_bounds s).1 + 1 ≡ values_between (pos 0, h.most)
register-points s h = ap (λ (x : Side). (register_bounds x).1 + 1) h.is ∙ most-points h.most h.few

pub integer-points : (s : ℤ × ℤ) → side_points s ≡ values_between s
integer-points s = by_tests (int_le s.0 s.1) (int_lt s.1 s.0) refl refl
  where
    by_tests : (a b : Bool) → int_le s.0 s.1 ≡ a → int_lt s.1 s.0 ≡ b → (if a then unsigned_abs (s.1 -ℤ s.0) + 1 else 1) ≡ (if b then 1 else unsigned_abs (s.1 -ℤ s.0) + 1)
    by_tests true true e f = absurd (grind (arith, ints))
    by_tests true false e f = refl
    by_tests false true e f = refl
    by_tests false false e f = absurd (grind (arith, ints))

-- how large the values are
pub zero-le : (n : ℕ) → greatest_amount (pos 0, pos n) ≤ n
zero-le n = by_test (int_le (pos 0) (pos n))
  where
    by_test : (b : Bool) → (if b then max 0 n else 0) ≤ n
    by_test true = omega arith
    by_test false = omega arith

cut-amount : (m : ℕ) → greatest_amount (whole_side (register_bounds (Some (pos 0, pos m)))) ≤ m
cut-amount m = subst (λ (s : ℕ × ℕ). greatest_amount (whole_side s) ≤ m) (sym (bounds-up-to m)) (let z = zero-le (cut_off m) in omega arith)

most-amount : (z : ℤ) → greatest_amount (whole_side (register_bounds (Some (pos 0, z)))) ≤ amount (pos 0, z)
most-amount (pos m) = let b = cut-amount m in let e = amount-up-to m in omega arith
most-amount (negsuc m) = omega arith

pub register-amount : (s : Side) → IsFromZero s → greatest_amount (whole_side (register_bounds s)) ≤ side_amount s
register-amount s h = subst (λ (x : Side). greatest_amount (whole_side (register_bounds x)) ≤ side_amount x) (sym h.is) (most-amount h.most)

pub integer-amount : (s : Side) → greatest_amount (integer_bounds s) ≤ side_amount s
integer-amount None = omega arith
integer-amount (Some s) = by_tests (int_le s.0 s.1) (int_lt s.1 s.0) refl refl
  where
    by_tests : (a b : Bool) → int_le s.0 s.1 ≡ a → int_lt s.1 s.0 ≡ b → (if a then max (unsigned_abs s.0) (unsigned_abs s.1) else 0) ≤ (if b then 0 else max (unsigned_abs s.0) (unsigned_abs s.1))
    by_tests true true e f = absurd (grind (arith, ints))
    by_tests true false e f = omega arith
    by_tests false true e f = omega arith
    by_tests false false e f = absurd (grind (arith, ints))
