-- The box of a flat cube, as a region.
use Rattle.std.proofs.Common.{◌≡◌, refl, ap, sym, subst, ◌∙◌, Bool, true, false, ℕ, suc, zero, ◌+◌, ◌*◌, ◌<◌, ◌≤◌, ℤ, pos, ◌-ℤ◌, ◌≤ℤ◌, List, [], ◌∷◌, ◌++◌, map, length, take, drop, get_or, Option, Some, None, All, arith}
use Rattle.std.specs.Prelude.{int_lt, unsigned_abs, if◌then◌else◌}
use Rattle.std.specs.List.{AllByRecursion, AllZip, range_with_len}
use Rattle.std.proofs.Math.ListN.{get_or-append}
use Rattle.std.proofs.Math.Nat.{mul-le-mul, mul-le-mul_left, mul-le-mul_right, mul_assoc}
use Rattle.std.proofs.Math.Seq.{drop-append_seam, take-append_seam}
use Rattle.std.proofs.lemmas.List.{length-map, get_or-append-add, get_or-map}
use Rattle.std.proofs.lemmas.List.Elements.{All-nil, All-cons}
use Rattle.std.proofs.lemmas.List.FromFn.{length-map-range_with_len}
use Rattle.sv_linear.specs.Rows.{MeetsRow, MeetsRows, RowFits, unknowns_of}
use Rattle.sv_linear.specs.declared.row.Row.{Row}
use Rattle.sv_linear.specs.TermLaws.{weight-less}
use Rattle.search_hits.specs.Regions.{IsInRegion, IsWithin, amounts, greatest_amount, integer_points, points, register_points, side_points, sides_of, whole_side}
use Rattle.cube_bounds.specs.Bounds.{sources, states}
use Rattle.cube_bounds.specs.Growth.{reach}
use Rattle.cube_bounds.specs.Sides.{IsSmall, Side, amount_of, integer_side, integer_sides, lower, lower_of, points_of, register_side, register_sides, side_amount, sides, span_in, times, upper, upper_of, values_between}
use Rattle.flat_cubes.specs.declared.flat.Flat.{Flat}
use Rattle.cube_region.specs.Bounding.{box_of, integer_bounds, register_bounds}
use Rattle.cube_region.specs.Regions.{IsRegionFor}
use Rattle.cube_region.proofs.RowBounds.{greatest-of, least-of, lower-holds, upper-holds}
use Rattle.cube_region.proofs.Sides.{IsFew, IsFromZero, from-zero, integer-amount, integer-points, integer-within, register-amount, register-points, register-within}
use Rattle.sv_terms.specs.declared.limits.TheConstants.{MOST_POINTS}

registers-long : (flat : Flat) → length (register_sides flat) ≡ length flat.registers
registers-long flat = length-map-range_with_len (λ u. register_side (span_in flat.rows u)) (length flat.integers) (length flat.registers)

pub sides-front : (flat : Flat) (ss : List Side) (k : ℕ) → ss ≡ sides flat → k ≡ length flat.registers → take k ss ≡ register_sides flat
sides-front flat ss k e f =
    let r : k ≡ length (register_sides flat) = f ∙ sym (registers-long flat) in
    (λ i. take (r i) (e i)) ∙ take-append_seam (register_sides flat) (integer_sides flat)

pub sides-back : (flat : Flat) (ss : List Side) (k : ℕ) → ss ≡ sides flat → k ≡ length flat.registers → drop k ss ≡ integer_sides flat
sides-back flat ss k e f =
    let r : k ≡ length (register_sides flat) = f ∙ sym (registers-long flat) in
    (λ i. drop (r i) (e i)) ∙ drop-append_seam (register_sides flat) (integer_sides flat)

-- the bounds of the rows aren't passed where all rows are met
upper-all : (x : ℕ → ℤ) (u : ℕ) (rs : List Row) (z : ℤ) → AllByRecursion (MeetsRow x) rs → upper u rs ≡ Some z → x u ≤ℤ z
upper-all x u [] z a e = absurd (cc)
upper-all x u (r ∷ rs) z a e =
    least-of (upper_of u r.kind r.form.coefficients r.form.constant) (upper u rs) (x u) z
    (λ m. upper-holds x u r.kind r.form.coefficients r.form.constant m r.form.ascending a.0) (λ m. upper-all x u rs m a.1) e

lower-all : (x : ℕ → ℤ) (u : ℕ) (rs : List Row) (z : ℤ) → AllByRecursion (MeetsRow x) rs → lower u rs ≡ Some z → z ≤ℤ x u
lower-all x u [] z a e = absurd (cc)
lower-all x u (r ∷ rs) z a e =
    greatest-of (lower_of u r.kind r.form.coefficients r.form.constant) (lower u rs) (x u) z
    (λ m. lower-holds x u r.kind r.form.coefficients r.form.constant m r.form.ascending a.0) (λ m. lower-all x u rs m a.1) e

-- of the values that the sides have
value-some : (s : ℤ × ℤ) → 1 ≤ values_between s
value-some s = by_test (int_lt s.1 s.0)
  where
    by_test : (b : Bool) → 1 ≤ (if b then 1 else unsigned_abs (s.1 -ℤ s.0) + 1)
    by_test true = omega arith
    by_test false = omega arith

some-points : (ss : List Side) (n : ℕ) → points_of ss ≡ Some n → 1 ≤ n
some-points [] n e = let f : 1 ≡ n = cc in omega arith
some-points (s ∷ ss) n e = by_side s (points_of ss) e (some-points ss)
  where
    by_side : (s : Side) (o : Option ℕ) → times s o ≡ Some n → ((m : ℕ) → o ≡ Some m → 1 ≤ m) → 1 ≤ n
    by_side None o e h = absurd (cc)
    by_side (Some b) None e h = absurd (cc)
    by_side (Some b) (Some m) e h =
        let f : values_between b * m ≡ n = cc in
        let k = mul-le-mul (value-some b) (h m refl) in
        omega arith

factors-few : (a m n : ℕ) → 1 ≤ a → 1 ≤ m → a * m ≡ n → n ≤ MOST_POINTS → (a ≤ MOST_POINTS) × (m ≤ MOST_POINTS)
factors-few a m n h k e l =
    let p : a * 1 ≤ a * m = mul-le-mul_left a k in
    let q : 1 * m ≤ a * m = mul-le-mul_right m h in
    (omega arith, omega arith)

-- where the box has few points, each side has few values
few-all : (ss : List Side) (n : ℕ) → points_of ss ≡ Some n → n ≤ MOST_POINTS → AllByRecursion IsFew ss
few-all [] n e l = tt
few-all (s ∷ ss) n e l = by_side s (points_of ss) e (few-all ss) (some-points ss)
  where
    by_side : (s : Side) (o : Option ℕ) → times s o ≡ Some n → ((m : ℕ) → o ≡ Some m → m ≤ MOST_POINTS → AllByRecursion IsFew ss) → ((m : ℕ) → o ≡ Some m → 1 ≤ m) → IsFew s × AllByRecursion IsFew ss
    by_side None o e h k = absurd (cc)
    by_side (Some b) None e h k = absurd (cc)
    by_side (Some b) (Some m) e h k =
        let f : values_between b * m ≡ n = cc in
        let g = factors-few (values_between b) m n (value-some b) (k m refl) f l in
        (record { bounds = b; is = refl; few = g.0 }, h m refl g.1)

-- the points of two lists of sides
pub record ArePoints (xs ys : List Side) (n : ℕ) : Type 0 where
  pub front : ℕ
  pub back : ℕ
  pub front_is : points_of xs ≡ Some front
  pub back_is : points_of ys ≡ Some back
  pub product : front * back ≡ n

points-parted : (xs ys : List Side) (n : ℕ) → points_of (xs ++ ys) ≡ Some n → ArePoints xs ys n
points-parted [] ys n e = record { front = 1; back = n; front_is = refl; back_is = e; product = omega arith }
points-parted (a ∷ xs) ys n e = by_side a (points_of (xs ++ ys)) e (points-parted xs ys)
  where
    by_side : (a : Side) (o : Option ℕ) → times a o ≡ Some n → ((m : ℕ) → o ≡ Some m → ArePoints xs ys m) → ArePoints (a ∷ xs) ys n
    by_side None o e h = absurd (cc)
    by_side (Some b) None e h = absurd (cc)
    by_side (Some b) (Some m) e h =
        let f : values_between b * m ≡ n = cc in
        let r = h m refl in
        record {
          front = values_between b * r.front;
          back = r.back;
          front_is = ap (times (Some b)) r.front_is;
          back_is = r.back_is;
          product = mul_assoc (values_between b) r.front r.back ∙ ap (λ k. values_between b * k) r.product ∙ f;
        }

register-product : (ss : List Side) (p : ℕ) → AllByRecursion IsFromZero ss → points_of ss ≡ Some p → register_points (map register_bounds ss) ≡ p
register-product [] p a e = cc
register-product (s ∷ ss) p a e = by_points (points_of ss) (subst (λ (x : Side). times x (points_of ss) ≡ Some p) a.0.is e) (λ m. register-product ss m a.1)
  where
    by_points : (o : Option ℕ) → times (Some (pos 0, a.0.most)) o ≡ Some p → ((m : ℕ) → o ≡ Some m → register_points (map register_bounds ss) ≡ m) → ((register_bounds s).1 + 1) * register_points (map register_bounds ss) ≡ p
    by_points None e h = absurd (cc)
    by_points (Some m) e h =
        let f : values_between (pos 0, a.0.most) * m ≡ p = cc in
        (λ i. register-points s a.0 i * h m refl i) ∙ f

integer-product : (ss : List Side) (p : ℕ) → points_of ss ≡ Some p → integer_points (map integer_bounds ss) ≡ p
integer-product [] p e = cc
integer-product (s ∷ ss) p e = by_side s (points_of ss) e (λ m. integer-product ss m)
  where
    by_side : (s : Side) (o : Option ℕ) → times s o ≡ Some p → ((m : ℕ) → o ≡ Some m → integer_points (map integer_bounds ss) ≡ m) → side_points (integer_bounds s) * integer_points (map integer_bounds ss) ≡ p
    by_side None o e h = absurd (cc)
    by_side (Some b) None e h = absurd (cc)
    by_side (Some b) (Some m) e h =
        let f : values_between b * m ≡ p = cc in
        (λ i. integer-points b i * h m refl i) ∙ f

parts-of : (xs ys : List Side) → AllByRecursion IsFew (xs ++ ys) → AllByRecursion IsFew xs × AllByRecursion IsFew ys
parts-of [] ys h = (tt, h)
parts-of (a ∷ xs) ys h = let r = parts-of xs ys h.1 in ((h.0, r.0), r.1)

from-zero-all : (rs : List Row) (n k : ℕ) → AllByRecursion IsFew (map (λ u. register_side (span_in rs u)) (range_with_len n k)) → AllByRecursion IsFromZero (map (λ u. register_side (span_in rs u)) (range_with_len n k))
from-zero-all rs n zero h = tt
from-zero-all rs n (suc k) h = (from-zero (upper n rs) h.0, from-zero-all rs (n + 1) k h.1)

-- what meets the rows lies within the sides
module _ (x : ℕ → ℤ) (rs : List Row) (met : AllByRecursion (MeetsRow x) rs) where
  registers-within : (n : ℕ) (totals : List ℕ) → ((i : ℕ) → i < length totals → x (n + i) ≡ pos (get_or totals i 0))
      → AllByRecursion IsFew (map (λ u. register_side (span_in rs u)) (range_with_len n (length totals)))
      → AllZip IsWithin (map whole_side (map register_bounds (map (λ u. register_side (span_in rs u)) (range_with_len n (length totals))))) (map pos totals)
  registers-within n [] at few = tt
  registers-within n (t ∷ totals) at few =
      let here : x n ≡ pos t = ap x (let e : n ≡ n + 0 = omega arith in e) ∙ at 0 (omega arith) in (
        register-within (upper n rs) t (λ z e. subst (λ y. y ≤ℤ z) here (upper-all x n rs z met e)) few.0,
        registers-within (n + 1) totals (λ i l. ap x (let e : n + 1 + i ≡ n + suc i = omega arith in e) ∙ at (suc i) (omega arith)) few.1,
      )

  integers-within : (n : ℕ) (numbers : List ℤ) → ((i : ℕ) → i < length numbers → x (n + i) ≡ get_or numbers i (pos 0))
      → AllByRecursion IsFew (map (λ u. integer_side (span_in rs u)) (range_with_len n (length numbers)))
      → AllZip IsWithin (map integer_bounds (map (λ u. integer_side (span_in rs u)) (range_with_len n (length numbers)))) numbers
  integers-within n [] at few = tt
  integers-within n (z ∷ numbers) at few =
      let here : x n ≡ z = ap x (let e : n ≡ n + 0 = omega arith in e) ∙ at 0 (omega arith) in (
        integer-within (lower n rs) (upper n rs) z (λ y e. subst (λ v. y ≤ℤ v) here (lower-all x n rs y met e)) (λ y e. subst (λ v. v ≤ℤ y) here (upper-all x n rs y met e)) few.0,
        integers-within (n + 1) numbers (λ i l. ap x (let e : n + 1 + i ≡ n + suc i = omega arith in e) ∙ at (suc i) (omega arith)) few.1,
      )

-- the amounts of the box are no larger
amount-among : (is rs : List Side) → AllByRecursion IsFromZero rs → (u : ℕ)
    → greatest_amount (get_or (map integer_bounds is ++ map whole_side (map register_bounds rs)) u (pos 0, pos 0)) ≤ side_amount (get_or (is ++ rs) u None)
amount-among [] [] h u = omega arith
amount-among [] (r ∷ rs) h zero = register-amount r h.0
amount-among [] (r ∷ rs) h (suc u) = amount-among [] rs h.1 u
amount-among (i ∷ is) rs h zero = integer-amount i
amount-among (i ∷ is) rs h (suc u) = amount-among is rs h u

pub fits-all : (f g : ℕ → ℕ) → ((u : ℕ) → f u ≤ g u) → (rs : List Row) → AllByRecursion (RowFits g) rs → All (RowFits f) rs
fits-all f g h [] a = All-nil (RowFits f)
fits-all f g h (r ∷ rs) a = All-cons (RowFits f) r rs (let w = weight-less f g h r.form.coefficients in let b = a.0 in omega arith) (fits-all f g h rs a.1)

-- the unknowns of the rows are the numbers, then the totals
unknown-number : (numbers : List ℤ) (totals : List ℕ) (i : ℕ) → i < length numbers → unknowns_of numbers totals (0 + i) ≡ get_or numbers i (pos 0)
unknown-number numbers totals i l = ap (unknowns_of numbers totals) (let e : 0 + i ≡ i = omega arith in e) ∙ get_or-append numbers (map pos totals) (pos 0) i l

unknown-total : (numbers : List ℤ) (totals : List ℕ) (n i : ℕ) → length numbers ≡ n → i < length totals → unknowns_of numbers totals (n + i) ≡ pos (get_or totals i 0)
unknown-total numbers totals n i e l = ap (λ k. unknowns_of numbers totals (k + i)) (sym e) ∙ get_or-append-add numbers (map pos totals) i (pos 0) ∙ get_or-map pos totals i 0 (pos 0) l

module _ (flat : Flat) (small : IsSmall flat) where
  few : AllByRecursion IsFew (register_sides flat) × AllByRecursion IsFew (integer_sides flat)
  few = parts-of (register_sides flat) (integer_sides flat) (few-all (sides flat) small.count small.are small.few)

  zeros : AllByRecursion IsFromZero (register_sides flat)
  zeros = from-zero-all flat.rows (length flat.integers) (length flat.registers) few.0

  box-points : points (box_of flat) ≡ small.count
  box-points =
      let r = points-parted (register_sides flat) (integer_sides flat) small.count small.are in
      (λ i. register-product (register_sides flat) r.front zeros r.front_is i * integer-product (integer_sides flat) r.back r.back_is i) ∙ r.product

  holds : (numbers : List ℤ) (totals : List ℕ) → length totals ≡ length flat.registers → MeetsRows (length flat.integers) flat.rows numbers totals → IsInRegion (box_of flat) numbers totals
  holds numbers totals e met = record {
    not_empty = refl;
    numbers = subst (λ n. AllZip IsWithin (map integer_bounds (map (λ u. integer_side (span_in flat.rows u)) (range_with_len 0 n))) numbers) met.count
        (integers-within (unknowns_of numbers totals) flat.rows met.each 0 numbers (unknown-number numbers totals)
        (subst (λ n. AllByRecursion IsFew (map (λ u. integer_side (span_in flat.rows u)) (range_with_len 0 n))) (sym met.count) few.1));
    registers = subst (λ n. AllZip IsWithin (map whole_side (map register_bounds (map (λ u. register_side (span_in flat.rows u)) (range_with_len (length flat.integers) n)))) (map pos totals)) e
        (registers-within (unknowns_of numbers totals) flat.rows met.each (length flat.integers) totals (λ i. unknown-total numbers totals (length flat.integers) i met.count)
        (subst (λ n. AllByRecursion IsFew (map (λ u. register_side (span_in flat.rows u)) (range_with_len (length flat.integers) n))) (sym e) few.0));
  }

  pub box-region : IsRegionFor flat (box_of flat)
  box-region = record {
    registers = length-map (register_sides flat) register_bounds ∙ registers-long flat;
    integers = λ _. length-map (integer_sides flat) integer_bounds ∙ length-map-range_with_len (λ u. integer_side (span_in flat.rows u)) 0 (length flat.integers);
    box = λ _ numbers totals e met. holds numbers totals e met;
    near = λ n numbers totals e f h. absurd (n small);
    bound = λ _. subst (λ n. pos (states flat * n * sources flat) ≤ℤ reach flat) (sym box-points) small.can.reached;
    fits = λ _. fits-all (amounts (sides_of (box_of flat))) (amount_of flat) (amount-among (integer_sides flat) (register_sides flat) zeros) flat.rows small.rows;
  }
