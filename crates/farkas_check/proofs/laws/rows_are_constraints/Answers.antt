use Rattle.farkas_check.specs.RowLaws.{meets_row}
use Rattle.farkas_check.proofs.laws.rows_are_constraints.Goals as goal

pub returns : goal.returns
returns c = meets_row
