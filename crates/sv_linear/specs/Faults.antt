-- When a sum or a product of forms is refused.
use Rattle.std.specs.Prelude.{◌≡◌, ℤ, FitsSigned, Result, Ok, Err}
use Rattle.std.specs.Int.{w128}
use Rattle.sv_linear.specs.Columns.{IsBefore}
use Rattle.sv_linear.specs.declared.column.Column.{Column}
use Rattle.sv_linear.specs.declared.fault.FormFault.{FormFault}
use Rattle.sv_linear.specs.declared.fault.FormFault.TheVariants.{Past, Memory}
use Rattle.sv_linear.specs.declared.form.Form.{Form}

-- l and r are the operands that meet at the first column where the operation's result isn't a number of 128 bits
pub record ArePastOperands (op : ℤ → ℤ → ℤ) (left right : Column → ℤ) (l r : ℤ) : Type 0 where
  pub column : Column
  pub left_is : l ≡ left column
  pub right_is : r ≡ right column
  pub outside : FitsSigned w128 (op l r) → ⊥
  pub first : (c : Column) → IsBefore c column → FitsSigned w128 (op (left c) (right c))

-- Ok only where each result is a number of 128 bits, and Past only with the first two operands whose result isn't
abbrev pub IsPastExactly : (ℤ → ℤ → ℤ) → (Column → ℤ) → (Column → ℤ) → Result Form FormFault → Type 0
IsPastExactly op left right (Ok f) = (c : Column) → FitsSigned w128 (op (left c) (right c))
IsPastExactly op left right (Err (Past l r)) = ArePastOperands op left right l r
IsPastExactly op left right (Err (Memory e)) = Unit {0}
