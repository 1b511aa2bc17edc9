-- The rows of a straight cube, as a leaf is asked for them.
use Rattle.std.proofs.Common.{◌≡◌, ℕ, zero, suc, ◌<◌, ◌≤◌, ◌+◌, ◌^◌, ℤ, pos, unsigned_abs, nat_eq, List, [], ◌∷◌, Some, slice_get, sym, subst, arith, inl, inr}
use Rattle.std.specs.List.{AllByRecursion}
use Rattle.std.proofs.lemmas.Bool.Decides.{eqb_tells}
use Rattle.sv_linear.specs.Combining.{IsSymmetric}
use Rattle.sv_linear.specs.Forms.{entry}
use Rattle.sv_linear.specs.Rows.{IsRowWithin}
use Rattle.sv_linear.specs.TermLaws.{passed, met, below_low}
use Rattle.sv_linear.specs.Terms.{AscendsWithin, coefficient}
use Rattle.sv_linear.specs.declared.column.Column.{Column}
use Rattle.sv_linear.specs.declared.column.Column.TheVariants.{Unknown, Constant}
use Rattle.sv_linear.specs.declared.form.Form.{Form}
use Rattle.sv_linear.specs.declared.row.Row.{Row}
use Rattle.flat_cubes.specs.Straight.{IsRowBelow}

ascends-below : (n low high : ℕ) (ts : List (ℕ × ℤ)) → AscendsWithin low high ts → AllByRecursion (λ (t : ℕ × ℤ). t.0 < n) ts → low ≤ n → AscendsWithin low n ts
ascends-below n low high [] a b l = l
ascends-below n low high (t ∷ ts) a b l = (a.0, (a.1.0, ascends-below n (t.0 + 1) high ts a.1.1 b.1 (omega (arith, b.0))))

symmetric-at : (u low high : ℕ) (ts : List (ℕ × ℤ)) → AscendsWithin low high ts → AllByRecursion (λ (t : ℕ × ℤ). unsigned_abs t.1 < 2 ^ 127) ts → IsSymmetric (coefficient u ts)
symmetric-at u low high [] a b = omega arith
symmetric-at u low high (t ∷ ts) a b = elim (eqb_tells t.0 u) [
  | inl is ↦
      let none : coefficient u ts ≡ pos 0 = below_low (t.0 + 1) high u ts a.1.1 (let e = is.1 in omega arith) in
      subst IsSymmetric (sym (met u t ts (nat_eq t.0 u) is.0 none)) b.0
  | inr other ↦ subst IsSymmetric (sym (passed u t ts (nat_eq t.0 u) other.0)) (symmetric-at u (t.0 + 1) high ts a.1.1 b.1)
]

entries-symmetric : (f : Form) → AllByRecursion (λ (t : ℕ × ℤ). unsigned_abs t.1 < 2 ^ 127) f.coefficients → unsigned_abs f.constant < 2 ^ 127 → (c : Column) → IsSymmetric (entry c f)
entries-symmetric f b c (Unknown u) = symmetric-at u 0 (2 ^ 32) f.coefficients f.ascending b
entries-symmetric f b c Constant = c

row-within : (n : ℕ) (r : Row) → IsRowBelow n r → IsRowWithin n r
row-within n r is = record {
  unknowns = ascends-below n 0 (2 ^ 32) r.form.coefficients r.form.ascending is.unknowns (omega arith);
  symmetric = entries-symmetric r.form is.coefficients is.constant;
}

pub rows-within : (n : ℕ) (rows : List Row) → AllByRecursion (IsRowBelow n) rows → (i : ℕ) (r : Row) → slice_get rows i ≡ Some r → IsRowWithin n r
rows-within n [] all i r e = cc
rows-within n (x ∷ rows) all zero r e = let same : x ≡ r = cc in subst (IsRowWithin n) same (row-within n x all.0)
rows-within n (x ∷ rows) all (suc i) r e = rows-within n rows all.1 i r e
