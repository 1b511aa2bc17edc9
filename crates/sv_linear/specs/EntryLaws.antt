-- What a form has at a column is its value at one point.
use Rattle.std.proofs.Common.{◌≡◌, ℕ, ℤ, pos, ◌+ℤ◌, ◌∙◌, arith}
use Rattle.std.proofs.lemmas.Int.{ints}
use Rattle.sv_linear.specs.Terms.{coefficient}
use Rattle.sv_linear.specs.Forms.{form_value, entry}
use Rattle.sv_linear.specs.Points.{unit, nowhere, coefficient_is_value, value_nowhere}
use Rattle.sv_linear.specs.declared.column.Column.{Column}
use Rattle.sv_linear.specs.declared.column.Column.TheVariants.{Unknown, Constant}
use Rattle.sv_linear.specs.declared.form.Form.{Form}

pub coefficient_value : (u : ℕ) (f : Form) → coefficient u f.coefficients ≡ form_value (unit u) (pos 0) f
coefficient_value u f = coefficient_is_value u f.coefficients ∙ omega (arith, ints)

pub constant_value : (f : Form) → f.constant ≡ form_value nowhere (pos 1) f
constant_value f = omega (arith, ints, value_nowhere f.coefficients)

-- the point of a column, and its denominator
abbrev point_at : Column → ℕ → ℤ
point_at (Unknown u) = unit u
point_at Constant = nowhere

abbrev over_at : Column → ℤ
over_at (Unknown u) = pos 0
over_at Constant = pos 1

pub entry_value : (c : Column) (f : Form) → entry c f ≡ form_value (point_at c) (over_at c) f
entry_value (Unknown u) f = coefficient_value u f
entry_value Constant f = constant_value f

-- entries of a sum
pub entry_of_sum : (f g h : Form) → ((x : ℕ → ℤ) (d : ℤ) → form_value x d h ≡ form_value x d f +ℤ form_value x d g) → (c : Column) → entry c h ≡ entry c f +ℤ entry c g
entry_of_sum f g h e c = omega (arith, ints, entry_value c f, entry_value c g, entry_value c h, e (point_at c) (over_at c))
