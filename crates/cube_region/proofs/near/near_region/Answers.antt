use Rattle.std.proofs.Common.{◌≡◌, ◌+◌, ◌-◌, ◌∙◌, ◌<◌, ℕ, ℤ, List, Bool, not, ap, subst, length, replicate}
use Rattle.search_hits.specs.declared.region.Region.{Region}
use Rattle.flat_cubes.specs.declared.flat.Flat.{Flat}
use Rattle.cube_region.specs.Bounding.{near_bounds, near_region}
use Rattle.cube_region.specs.Regions.{IsNearSide, quantities}
use Rattle.cube_region.proofs.near.near_region.Goals as goal

count-is : (flat : Flat) (r i : ℕ) → r ≡ length flat.registers → i ≡ length flat.integers → r + i ≡ quantities flat
count-is flat r i a b = ap (λ z. z + i) a ∙ ap (λ z. length flat.registers + z) b

abbrev region : Bool → List (ℕ × ℕ) → List (ℤ × ℤ) → Region
region owed totals numbers = record { empty = not owed; registers = totals; integers = numbers }

region-is : (flat : Flat) (s : ℕ) (owed : Bool) (r i : ℕ) (totals : List (ℕ × ℕ)) (numbers : List (ℤ × ℤ)) → r ≡ length flat.registers → i ≡ length flat.integers → totals ≡ replicate r (0, s - 1) → numbers ≡ replicate i (near_bounds s) → region owed totals numbers ≡ near_region flat s owed
region-is flat s owed r i totals numbers a b t n =
    ap (λ z. region owed z numbers) (t ∙ ap (λ k. replicate k (0, s - 1)) a)
    ∙ ap (λ z. region owed (replicate (length flat.registers) (0, s - 1)) z) (n ∙ ap (λ k. replicate k (near_bounds s)) b)

pub returns : goal.returns
returns c = record {
  side = c.near_side-side.result;
  searched = c.is_near_owed-owed.result;
  are = region-is c.args.flat.now c.near_side-side.result c.is_near_owed-owed.result c.len-3.result c.len-4.result c.in_ok-totals_below.field-0 c.in_ok-numbers_near.field-0 c.len-3.ensures c.len-4.ensures c.in_ok-totals_below.ensures c.in_ok-numbers_near.ensures;
  greatest = subst (λ n. 0 < n → IsNearSide n c.near_side-side.result) (count-is c.args.flat.now c.len.result c.len-2.result c.len.ensures c.len-2.ensures) c.near_side-side.ensures.greatest;
  some = c.near_side-side.ensures.some;
  owed = c.is_near_owed-owed.ensures;
}

pub is_near_owed-owed-requires-clause-numbers : goal.is_near_owed-owed-requires-clause-numbers
is_near_owed-owed-requires-clause-numbers c = c.requires.numbers

pub is_near_owed-owed-requires-clause-within : goal.is_near_owed-owed-requires-clause-within
is_near_owed-owed-requires-clause-within c = c.near_side-side.ensures.within

pub is_near_owed-owed-requires-clause-some : goal.is_near_owed-owed-requires-clause-some
is_near_owed-owed-requires-clause-some c = c.near_side-side.ensures.some

pub is_near_owed-owed-requires-clause-few : goal.is_near_owed-owed-requires-clause-few
is_near_owed-owed-requires-clause-few c = c.near_side-side.ensures.few

pub is_near_owed-owed-requires-clause-count : goal.is_near_owed-owed-requires-clause-count
is_near_owed-owed-requires-clause-count c = count-is c.args.flat.now c.len.result c.len-2.result c.len.ensures c.len-2.ensures

pub totals_below-requires : goal.totals_below-requires
totals_below-requires c = c.near_side-side.ensures.some

pub numbers_near-requires : goal.numbers_near-requires
numbers_near-requires c = c.near_side-side.ensures.some
