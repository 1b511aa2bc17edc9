-- The values near 0, as a region.
use Rattle.std.proofs.Common.{◌≡◌, refl, ap, sym, subst, ◌∙◌, Bool, true, false, not, IsTrue, inl, inr, ℕ, suc, zero, ◌+◌, ◌-◌, ◌*◌, ◌/◌, ◌^◌, ◌<◌, ◌≤◌, ℤ, pos, ◌≤ℤ◌, List, [], ◌∷◌, ◌++◌, map, length, get_or, replicate, All, arith}
use Rattle.std.specs.Prelude.{◌↔◌, nat_le, unsigned_abs, if◌then◌else◌}
use Rattle.std.specs.List.{AllByRecursion, AllZip}
use Rattle.std.proofs.lemmas.Int.{ints}
use Rattle.std.proofs.lemmas.Bool.{cases_lt, leb-true, leb-false}
use Rattle.std.proofs.lemmas.List.{length-replicate, get_or-replicate, get_or-append_right}
use Rattle.std.proofs.lemmas.List.Elements.{All-head, All-tail}
use Rattle.std.proofs.lemmas.Nat.{pow-add}
use Rattle.std.proofs.Math.ListN.{get_or-append}
use Rattle.std.proofs.Math.Nat.{pow-suc, pow-zero}
use Rattle.sv_linear.specs.Rows.{RowFits, terms_weight}
use Rattle.sv_linear.specs.declared.row.Row.{Row}
use Rattle.search_hits.specs.Regions.{IsInRegion, IsWithin, amounts, greatest_amount, integer_points, points, register_points, sides_of, whole_side}
use Rattle.search_hits.specs.declared.region.Region.{Region}
use Rattle.cube_bounds.specs.Bounds.{sources, states}
use Rattle.cube_bounds.specs.Growth.{reach}
use Rattle.cube_bounds.specs.Sides.{IsSmall}
use Rattle.flat_cubes.specs.Straight.{IsRowBelow, IsStraight}
use Rattle.flat_cubes.specs.declared.flat.Flat.{Flat}
use Rattle.cube_region.specs.Bounding.{IsNearRegion, near_bounds, near_region}
use Rattle.cube_region.specs.Regions.{IsNearNumber, IsNearOwed, IsNearSide, IsRegionFor, Near, near_amount, quantities}
use Rattle.cube_region.proofs.BoxSides.{fits-all}
use Rattle.cube_region.proofs.NearNumbers.{near-amount, near-points, near-side-one, near-within}
use Rattle.cube_region.proofs.Sides.{zero-le}
use Rattle.cube_bounds.specs.declared.work.TheConstants.{MOST_WORK}

-- near values lie within the sides
numbers-within : (s n : ℕ) (numbers : List ℤ) → length numbers ≡ n → All (IsNearNumber s) numbers → AllZip IsWithin (replicate n (near_bounds s)) numbers
numbers-within s zero [] e h = tt
numbers-within s zero (z ∷ numbers) e h = absurd (omega arith)
numbers-within s (suc n) [] e h = absurd (omega arith)
numbers-within s (suc n) (z ∷ numbers) e h =
    let i = All-head (IsNearNumber s) z numbers h in
    (subst (IsWithin (near_bounds s)) (sym i.2) (near-within s i.0 i.1), numbers-within s n numbers (omega arith) (All-tail (IsNearNumber s) z numbers h))

totals-within : (s n : ℕ) (totals : List ℕ) → length totals ≡ n → All (λ t. t < s) totals → AllZip IsWithin (map whole_side (replicate n (0, s - 1))) (map pos totals)
totals-within s zero [] e h = tt
totals-within s zero (t ∷ totals) e h = absurd (omega arith)
totals-within s (suc n) [] e h = absurd (omega arith)
totals-within s (suc n) (t ∷ totals) e h =
    let l = All-head (λ (t : ℕ). t < s) t totals h in
    ((omega (arith, ints), omega (arith, ints)), totals-within s n totals (omega arith) (All-tail (λ (t : ℕ). t < s) t totals h))

no-numbers : (s n : ℕ) (numbers : List ℤ) → length numbers ≡ n → n ≡ 0 → AllZip IsWithin (replicate n (near_bounds s)) numbers
no-numbers s zero [] e z = tt
no-numbers s zero (x ∷ numbers) e z = absurd (omega arith)
no-numbers s (suc n) numbers e z = absurd (omega arith)

no-totals : (s n : ℕ) (totals : List ℕ) → length totals ≡ n → n ≡ 0 → AllZip IsWithin (map whole_side (replicate n (0, s - 1))) (map pos totals)
no-totals s zero [] e z = tt
no-totals s zero (t ∷ totals) e z = absurd (omega arith)
no-totals s (suc n) totals e z = absurd (omega arith)

-- how many points there are
totals-points : (s n : ℕ) → 1 ≤ s → register_points (replicate n (0, s - 1)) ≡ s ^ n
totals-points s zero h = sym (pow-zero s)
totals-points s (suc n) h =
    let e : s - 1 + 1 ≡ s = omega arith in
    (λ i. e i * totals-points s n h i) ∙ (let p = pow-suc s n in let f : s * s ^ n ≡ s ^ n * s = omega arith in f ∙ sym p)

numbers-points : (s n : ℕ) → 1 ≤ s → integer_points (replicate n (near_bounds s)) ≡ s ^ n
numbers-points s zero h = sym (pow-zero s)
numbers-points s (suc n) h =
    (λ i. near-points s h i * numbers-points s n h i) ∙ (let p = pow-suc s n in let f : s * s ^ n ≡ s ^ n * s = omega arith in f ∙ sym p)

-- how large the values are
get-all : {X : Type 0} (P : X → Type 0) (xs : List X) (i : ℕ) (d : X) → AllByRecursion P xs → P d → P (get_or xs i d)
get-all P [] i d a h = h
get-all P (x ∷ xs) zero d a h = a.0
get-all P (x ∷ xs) (suc i) d a h = get-all P xs i d a.1 h

totals-amount : (s n : ℕ) → AllByRecursion (λ (b : ℤ × ℤ). greatest_amount b ≤ s - 1) (map whole_side (replicate n (0, s - 1)))
totals-amount s zero = tt
totals-amount s (suc n) = (zero-le (s - 1), totals-amount s n)

near-amounts : (s i r u : ℕ) → greatest_amount (get_or (replicate i (near_bounds s) ++ map whole_side (replicate r (0, s - 1))) u (pos 0, pos 0)) ≤ (if nat_le i u then s - 1 else s / 2)
near-amounts s i r u = by_test (nat_le i u) refl
  where
    long : length (replicate i (near_bounds s)) ≡ i
    long = length-replicate i (near_bounds s)

    by_test : (b : Bool) → nat_le i u ≡ b → greatest_amount (get_or (replicate i (near_bounds s) ++ map whole_side (replicate r (0, s - 1))) u (pos 0, pos 0)) ≤ (if b then s - 1 else s / 2)
    by_test true e =
        let back = get_or-append_right (replicate i (near_bounds s)) (map whole_side (replicate r (0, s - 1))) i u (pos 0, pos 0) long (leb-true i u e) in
        subst (λ (b : ℤ × ℤ). greatest_amount b ≤ s - 1) (sym back)
        (get-all (λ (b : ℤ × ℤ). greatest_amount b ≤ s - 1) (map whole_side (replicate r (0, s - 1))) (u - i) (pos 0, pos 0) (totals-amount s r) (let z = zero-le 0 in omega arith))
    by_test false e =
        let low : u < i = leb-false i u e in
        let there : u < length (replicate i (near_bounds s)) = (let l = long in omega arith) in
        let front = get_or-append (replicate i (near_bounds s)) (map whole_side (replicate r (0, s - 1))) (pos 0, pos 0) u there ∙ get_or-replicate i u (near_bounds s) (pos 0, pos 0) low in
        subst (λ (b : ℤ × ℤ). greatest_amount b ≤ s / 2) (sym front) (near-amount s)

-- rows without unknowns fit whatever the amounts are
fits-any : (f g : ℕ → ℕ) (rs : List Row) → AllByRecursion (IsRowBelow 0) rs → AllByRecursion (RowFits f) rs → AllByRecursion (RowFits g) rs
fits-any f g [] a h = tt
fits-any f g (r ∷ rs) a h = (by_terms r.form.coefficients a.0.unknowns h.0, fits-any f g rs a.1 h.1)
  where
    by_terms : (ts : List (ℕ × ℤ)) → AllByRecursion (λ t. t.0 < 0) ts → unsigned_abs r.form.constant + terms_weight f ts < 2 ^ 127 → unsigned_abs r.form.constant + terms_weight g ts < 2 ^ 127
    by_terms [] b k = k
    by_terms (t ∷ ts) b k = absurd (omega (arith, b.0))

module _ (flat : Flat) (straight : IsStraight flat) (s : ℕ) (some : 1 ≤ s) where
  -- without quantities it doesn't matter how many values each has
  owed-any : (t : ℕ) → quantities flat ≡ 0 → IsNearOwed flat t → IsNearOwed flat s
  owed-any t e h =
      let p : t ^ quantities flat ≡ s ^ quantities flat = ap (λ n. t ^ n) e ∙ pow-zero t ∙ sym (pow-zero s) ∙ ap (λ n. s ^ n) (sym e) in
      let none : length flat.integers + length flat.registers ≡ 0 = omega arith in
      record {
        few = subst (λ n. states flat * n * sources flat ≤ MOST_WORK) p h.few;
        within = subst (λ n. pos (states flat * n * sources flat) ≤ℤ reach flat) p h.within;
        fits = fits-any (near_amount flat t) (near_amount flat s) flat.rows (subst (λ n. AllByRecursion (IsRowBelow n) flat.rows) none straight.rows) h.fits;
      }

  region-points : (b : Bool) → points (near_region flat s b) ≡ s ^ quantities flat
  region-points b =
      (λ i. totals-points s (length flat.registers) some i * numbers-points s (length flat.integers) some i) ∙ sym (pow-add s (length flat.registers) (length flat.integers))

  module _ (b : Bool) (owed : IsTrue b ↔ IsNearOwed flat s) (greatest : 0 < quantities flat → IsNearSide (quantities flat) s) where
    held : (numbers : List ℤ) (totals : List ℕ) → length totals ≡ length flat.registers → length numbers ≡ length flat.integers → Near flat numbers totals → IsInRegion (near_region flat s b) numbers totals
    held numbers totals e f h = elim (cases_lt 0 (quantities flat)) [
      | inl l ↦ with_side (near-side-one (quantities flat) h.side s (h.greatest l) (greatest l))
      | inr l ↦ without (omega arith)
    ]
      where
        searched : IsNearOwed flat s → not b ≡ false
        searched o = ap not (owed.1 o)

        with_side : h.side ≡ s → IsInRegion (near_region flat s b) numbers totals
        with_side g = record {
          not_empty = searched (subst (IsNearOwed flat) g h.owed);
          numbers = numbers-within s (length flat.integers) numbers f (subst (λ n. All (IsNearNumber n) numbers) g h.integers);
          registers = totals-within s (length flat.registers) totals e (subst (λ n. All (λ t. t < n) totals) g h.registers);
        }

        without : quantities flat ≡ 0 → IsInRegion (near_region flat s b) numbers totals
        without z = record {
          not_empty = searched (owed-any h.side z h.owed);
          numbers = no-numbers s (length flat.integers) numbers f (omega arith);
          registers = no-totals s (length flat.registers) totals e (omega arith);
        }

    pub is-region : (IsSmall flat → ⊥) → IsRegionFor flat (near_region flat s b)
    is-region small = record {
      registers = length-replicate (length flat.registers) (0, s - 1);
      integers = λ _. length-replicate (length flat.integers) (near_bounds s);
      box = λ h numbers totals e met. absurd (small h);
      near = λ _ numbers totals e f h. held numbers totals e f h;
      bound = λ g. subst (λ n. pos (states flat * n * sources flat) ≤ℤ reach flat) (sym (region-points b)) (owed.0 (unnot b g)).within;
      fits = λ g. fits-all (amounts (sides_of (near_region flat s b))) (near_amount flat s) (near-amounts s (length flat.integers) (length flat.registers)) flat.rows (owed.0 (unnot b g)).fits;
    }
      where
        unnot : (b : Bool) → not b ≡ false → IsTrue b
        unnot true g = refl
        unnot false g = absurd (cc)

pub near-region : (flat : Flat) (region : Region) → IsStraight flat → (IsSmall flat → ⊥) → IsNearRegion flat region → IsRegionFor flat region
near-region flat region straight small h = subst (IsRegionFor flat) (sym h.are) (is-region flat straight h.side h.some h.searched h.owed h.greatest small)
