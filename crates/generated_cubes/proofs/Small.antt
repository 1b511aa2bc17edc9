-- The numbers of the flat cubes of the blocks.
use Rattle.std.proofs.Common.{◌≡◌, ℕ, ◌+◌, ◌*◌, ◌≤◌, ◌<◌, ◌^◌, ℤ, pos, neg_ℤ, ◌≤ℤ◌, unsigned_abs, Some, refl, sym, ap, ◌∙◌, subst, arith}
use Rattle.std.proofs.lemmas.Int.{ints}
use Rattle.std.specs.Int.{int_div_euclid}
use Rattle.std.specs.List.{AllByRecursion}
use Rattle.std.specs.Prelude.{codes}
use Rattle.sv_terms.specs.Bounds.{size}
use Rattle.sv_terms.specs.BoundLaws.{size-Text, size-Star, size-Loop}
use Rattle.sv_terms.specs.declared.regex.Regex.TheVariants as regex
use Rattle.cube_bounds.specs.Bounds.{states, splits, sources}
use Rattle.cube_bounds.specs.Growth.{reach}
use Rattle.cube_bounds.specs.Sides.{IsSmall, CanSearch, amount_of, values_between, amount, points}
use Rattle.sv_linear.specs.Rows.{RowFits}
use Rattle.flat_cubes.specs.declared.flat.Flat.{Flat}
use Rattle.generated_script.specs.declared.shape.Shape.{Shape as Block}
use Rattle.generated_script.specs.declared.shape.Shape.TheVariants.{Power, Odd, Halves, Escaped}
use Rattle.generated_cubes.specs.Blocks.{IsSmallBlock}
use Rattle.generated_cubes.proofs.Flats.{flat_of, flattening}
use Rattle.generated_cubes.proofs.Numbers.{row_constant, magnitude, upper_is, values_are, amount_is, below_limit}

-- the greatest length, and how many there are
abbrev upper : ℕ → ℤ
upper n = int_div_euclid (neg_ℤ (row_constant n)) (pos 1)

abbrev lengths : ℕ → ℕ
lengths n = values_between (pos 0, upper n) * 1

lengths_are : (n : ℕ) → lengths n ≡ n + 1
lengths_are n = ap (λ (z : ℤ). values_between (pos 0, z) * 1) (upper_is n) ∙ ap (λ (m : ℕ). m * 1) (values_are n) ∙ omega arith

upper_amount : (n : ℕ) → amount (pos 0, upper n) ≤ n
upper_amount n = subst (λ (z : ℤ). amount (pos 0, z) ≤ n) (sym (upper_is n)) (amount_is n)

row_fits : (n : ℕ) → n ≤ 1000 → unsigned_abs (row_constant n) + (unsigned_abs (pos 1) * amount (pos 0, upper n) + 0) < 2 ^ 127
row_fits n h = let low = below_limit (n + n) in omega (arith, h, magnitude n, upper_amount n)

-- few states and few lengths are little work
little : (s n : ℕ) → s ≤ 151 → n ≤ 102 → s * n * 1 ≤ 15402
little s n h g = grind (arith, h, g)

can_search : (flat : Flat) (count : ℕ) → states flat ≤ 151 → count ≤ 102 → sources flat ≡ 1 → pos 15402 ≤ℤ reach flat → CanSearch flat count
can_search flat count few low one far =
    let work : states flat * count * sources flat ≤ 15402 = subst (λ (k : ℕ). states flat * count * k ≤ 15402) (sym one) (little (states flat) count few low) in record {
      work = omega (arith, work);
      reached = omega (arith, ints, work, far);
    }

power_states : (k : ℕ) → k ≤ 50 → states (flat_of Power k) ≤ 151
power_states k h =
    let ab = regex.Text (codes "ab") in
    let is : size (regex.Loop ab k k) ≡ k * 3 + 1 = size-Loop ab k k ∙ ap (λ (m : ℕ). k * m + 1) (size-Text (codes "ab")) in
    omega (arith, is, h)

odd_states : (k : ℕ) → states (flat_of Odd k) ≤ 151
odd_states k =
    let aa = regex.Text (codes "aa") in
    let is : size (regex.Star aa) ≡ 4 = size-Star aa ∙ ap (λ (m : ℕ). m + 1) (size-Text (codes "aa")) in
    omega (arith, is)

few_lengths : (n : ℕ) → n ≤ 101 → lengths n ≤ 102
few_lengths n h = omega (arith, h, lengths_are n)

far : (flat : Flat) (k : ℕ) → reach flat ≡ pos k → 15402 ≤ k → pos 15402 ≤ℤ reach flat
far flat k is h = omega (arith, ints, is, h)

length_small : (flat : Flat) (n k : ℕ) → n ≤ 101 → states flat ≤ 151 → sources flat ≡ 1 → reach flat ≡ pos k → 15402 ≤ k → points flat ≡ Some (lengths n) → AllByRecursion (RowFits (amount_of flat)) flat.rows → IsSmall flat
length_small flat n k h few one is long are fits = record {
  count = lengths n;
  are = are;
  few = omega (arith, few_lengths n h);
  can = can_search flat (lengths n) few (few_lengths n h) one (far flat k is long);
  rows = fits;
}

small : (block : Block) (k : ℕ) → k ≤ 50 → IsSmall (flat_of block k)
small Power k h = length_small (flat_of Power k) (2 * k) 4194303 (omega (arith, h)) (power_states k h) refl refl (omega arith) refl (row_fits (2 * k) (omega (arith, h)), tt)
small Odd k h = length_small (flat_of Odd k) (2 * k + 1) 4194303 (omega (arith, h)) (odd_states k) refl refl (omega arith) refl (row_fits (2 * k + 1) (omega (arith, h)), tt)
small Halves k h = length_small (flat_of Halves k) k 2097151 (omega (arith, h)) (omega arith) refl refl (omega arith) refl (row_fits k (omega (arith, h)), tt)
small Escaped k h = record {
  count = 1;
  are = refl;
  few = omega arith;
  can = can_search (flat_of Escaped k) 1 (omega arith) (omega arith) refl (far (flat_of Escaped k) 524287 refl (omega arith));
  rows = tt;
}

few_states : (block : Block) (k : ℕ) → k ≤ 50 → states (flat_of block k) ≤ 151
few_states Power k h = power_states k h
few_states Odd k h = odd_states k
few_states Halves k h = omega arith
few_states Escaped k h = omega arith

no_splits : (block : Block) (k : ℕ) → splits (flat_of block k) ≡ 1
no_splits Power k = refl
no_splits Odd k = refl
no_splits Halves k = refl
no_splits Escaped k = refl

pub small_block : (block : Block) (k : ℕ) → k ≤ 50 → IsSmallBlock block k
small_block block k h = record { flat = flat_of block k; flattening = flattening block k h; few_states = few_states block k h; no_splits = no_splits block k; small = small block k h }
