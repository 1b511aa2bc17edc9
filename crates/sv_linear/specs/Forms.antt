-- Linear forms: their values, and their entries.
use Rattle.std.specs.Prelude.{ℕ, ℤ, ◌+ℤ◌, ◌*ℤ◌}
use Rattle.sv_linear.specs.Terms.{terms_value, coefficient}
use Rattle.sv_linear.specs.declared.column.Column.{Column}
use Rattle.sv_linear.specs.declared.column.Column.TheVariants.{Unknown, Constant}
use Rattle.sv_linear.specs.declared.form.Form.{Form}

-- d times the form's value where each unknown u has the value x u over d (its homogeneous form);
-- with d = 1 it is the value at whole numbers
abbrev pub form_value : (ℕ → ℤ) → ℤ → Form → ℤ
form_value x d f = terms_value x f.coefficients +ℤ f.constant *ℤ d

-- what a form has at a column
abbrev pub entry : Column → Form → ℤ
entry (Unknown u) f = coefficient u f.coefficients
entry Constant f = f.constant
