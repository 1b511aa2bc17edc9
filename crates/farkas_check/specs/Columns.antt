-- The columns of a row.
use Rattle.std.specs.Prelude.{ℤ}
use Rattle.sv_linear.specs.declared.column.Column.{Column}
use Rattle.sv_linear.specs.declared.column.Column.TheVariants.{Unknown, Constant}
use Rattle.farkas_check.specs.Systems.{Constraint}
use Rattle.farkas_check.specs.Closings.{coefficient_of, constant_of}

abbrev pub part_at : Column → Constraint → ℤ
part_at (Unknown u) c = coefficient_of u c
part_at Constant c = constant_of c
