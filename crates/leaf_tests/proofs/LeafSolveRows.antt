-- What the tests ask.
use Rattle.std.proofs.Common.{◌≡◌, ℕ, zero, suc, ℤ, pos, ◌+ℤ◌, ◌<◌, ◌≤◌, ◌^◌, List, [], ◌∷◌, length, Bool, true, false, cond, nat_eq, Some, slice_get, unsigned_abs, ap, subst, arith}
use Rattle.std.proofs.lemmas.Int.{ints}
use Rattle.std.proofs.lemmas.List.Elements.{All-nil, All-cons}
use Rattle.sv_linear.specs.Combining.{IsSymmetric}
use Rattle.sv_linear.specs.Rows.{IsRowWithin, HasSymmetricEntries}
use Rattle.sv_linear.specs.declared.column.Column.TheVariants.{Unknown, Constant}
use Rattle.sv_linear.specs.declared.row.Row.{Row}
use Rattle.machine_core.specs.declared.graph.Graph.{Graph}
use Rattle.search_hits.specs.declared.region.Region.{Region}
use Rattle.leaf_solve.specs.Questions.{IsAsked}

-- a row of one term
pub row-within : (r : Row) (by constant : ℤ) → r.form.coefficients ≡ (0, by) ∷ [] → r.form.constant ≡ constant → 0 < unsigned_abs by → IsSymmetric by → IsSymmetric constant → IsRowWithin 1 r
row-within r by constant terms same some sym_by sym_constant = record {
  unknowns = rw terms (omega arith, (some, omega arith));
  symmetric = entries;
}
  where
    by_test : (b : Bool) → IsSymmetric (cond b by (pos 0) +ℤ pos 0)
    by_test true = subst IsSymmetric (let z : by ≡ by +ℤ pos 0 = omega (arith, ints) in z) sym_by
    by_test false = (let z : unsigned_abs (pos 0) < 2 ^ 127 = omega arith in z)

    entries : HasSymmetricEntries r.form
    entries (Unknown u) = rw terms (by_test (nat_eq 0 u))
    entries Constant = rw same sym_constant

-- one such row
pub one-within : (r : Row) (rows : List Row) → rows ≡ r ∷ [] → IsRowWithin 1 r → (i : ℕ) (x : Row) → slice_get rows i ≡ Some x → IsRowWithin 1 x
one-within r rows e h i x at = first i (subst (λ (l : List Row). slice_get l i ≡ Some x) e at)
  where
    first : (i : ℕ) → slice_get (r ∷ []) i ≡ Some x → IsRowWithin 1 x
    first zero at = let same : r ≡ x = cc in subst (IsRowWithin 1) same h
    first (suc i) at = cc

-- a question of one machine and an empty region
pub asked-one : (m : Graph) (machines : List Graph) (rows : List Row) (region : Region) (reach : ℕ) → machines ≡ m ∷ [] → m.registers ≡ 1 → region.registers ≡ (0, 0) ∷ [] → region.empty ≡ true
    → ((i : ℕ) (r : Row) → slice_get rows i ≡ Some r → IsRowWithin 1 r) → reach ≤ 4194303 → IsAsked machines 0 rows region false reach
asked-one m machines rows region reach one width sides empty within few = record {
  few_machines = (let size = ap length one in omega arith);
  registers = rw (one, sides) (All-cons (λ (g : Graph). g.registers ≡ 1) m [] width (All-nil (λ (g : Graph). g.registers ≡ 1)));
  few_registers = (let size = ap length sides in omega arith);
  few_integers = omega arith;
  rows_within = rw sides within;
  few_characters = few;
  holds = λ s. absurd (cc);
  short = λ e. absurd (cc);
  sides = λ e. absurd (cc);
  fits = λ e. absurd (cc);
}
