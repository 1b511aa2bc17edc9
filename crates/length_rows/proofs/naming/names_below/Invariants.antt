use Rattle.std.proofs.Common.{◌<◌, take}
use Rattle.std.specs.List.{AllByRecursion}
use Rattle.length_rows.proofs.naming.names_below.Given as goal

abbrev pub invariant-loop-term : goal.invariant-loop-term
invariant-loop-term l = AllByRecursion (λ t. t.0 < l.unknowns) (take l.term-index l.row.form.coefficients)
