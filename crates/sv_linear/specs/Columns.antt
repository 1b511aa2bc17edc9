-- The columns of a form: its unknowns, ascending, and then its constant.
use Rattle.std.specs.Prelude.{◌<◌}
use Rattle.sv_linear.specs.declared.column.Column.{Column}
use Rattle.sv_linear.specs.declared.column.Column.TheVariants.{Unknown, Constant}

abbrev pub IsBefore : Column → Column → Type 0
IsBefore (Unknown u) (Unknown v) = u < v
IsBefore (Unknown u) Constant = Unit {0}
IsBefore Constant c = ⊥
