use Rattle.lia_tableau.specs.LineLaws.{same_row}
use Rattle.lia_tableau.specs.PointLaws.{point_exists}
use Rattle.lia_tableau.proofs.laws.bases_are_formed.Goals as goal

pub returns-clause-point : goal.returns-clause-point
returns-clause-point c = point_exists c.args.tableau.now.unknowns c.args.tableau.now.rows c.args.tableau.now.lines c.args.tableau.now.tableau

pub returns-clause-row : goal.returns-clause-row
returns-clause-row c = same_row c.args.tableau.now.lines
