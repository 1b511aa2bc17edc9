-- A row is met as it is meant.
use Rattle.std.proofs.Common.{◌≡◌, ℕ, ℤ, pos, ◌≤ℤ◌, ◌↔◌, IsTrue, refl, sym, ◌∙◌, subst, arith}
use Rattle.std.proofs.lemmas.Int.{ints}
use Rattle.sv_linear.specs.Forms.{form_value}
use Rattle.sv_linear.specs.Rows.{Compares, MeetsRow}
use Rattle.sv_linear.specs.declared.row.Row.{Row}
use Rattle.sv_linear.specs.declared.row.RowKind.{RowKind}
use Rattle.sv_linear.specs.declared.row.RowKind.TheVariants.{Le, Eq}
use Rattle.farkas_check.specs.Systems.{is_equation, constraint_of, constraint_value, Meets}

pub same_value : (x : ℕ → ℤ) (r : Row) → form_value x (pos 1) r.form ≡ constraint_value x (constraint_of r)
same_value x r = omega (arith, ints)

compares_to : (k : RowKind) (z : ℤ) → Compares k z → (z ≤ℤ pos 0) × (IsTrue (is_equation k) → z ≡ pos 0)
compares_to Le z h = (h, (λ e. absurd (cc)))
compares_to Eq z h = (omega (arith, ints, h), (λ e. h))

compares_from : (k : RowKind) (z : ℤ) → z ≤ℤ pos 0 → (IsTrue (is_equation k) → z ≡ pos 0) → Compares k z
compares_from Le z h e = h
compares_from Eq z h e = e refl

pub meets_row : (x : ℕ → ℤ) (r : Row) → MeetsRow x r ↔ Meets x (constraint_of r)
meets_row x r = (
  (λ h. let m = compares_to r.kind (form_value x (pos 1) r.form) h in
      record { at_most = subst (λ z. z ≤ℤ pos 0) (same_value x r) m.0; equal = λ e. sym (same_value x r) ∙ m.1 e }),
  (λ h. compares_from r.kind (form_value x (pos 1) r.form) (subst (λ z. z ≤ℤ pos 0) (sym (same_value x r)) h.at_most) (λ e. same_value x r ∙ h.equal e)),
)
