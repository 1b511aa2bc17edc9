use Rattle.std.proofs.Common.{◌<◌, take}
use Rattle.std.specs.List.{AllByRecursion}
use Rattle.sv_linear.specs.declared.row.Row.{Row}
use Rattle.length_rows.proofs.naming.name_below.Given as goal

abbrev pub invariant-loop-row : goal.invariant-loop-row
invariant-loop-row l = AllByRecursion (λ (s : Row). AllByRecursion (λ t. t.0 < l.unknowns) s.form.coefficients) (take l.row-index l.rows)
