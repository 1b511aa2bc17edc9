use Rattle.std.proofs.Common.{subst, List}
use Rattle.lia_tableau.specs.Bases.{IsLine}
use Rattle.lia_tableau.specs.declared.standing.Standing.{Standing}
use Rattle.lia_tableau.proofs.tableau.Tableau.of_table.Goals as goal

pub verdicts_of-requires-clause-symmetric : goal.verdicts_of-requires-clause-symmetric
verdicts_of-requires-clause-symmetric c = λ q f l.
    (c.args.table.tableau.line q f (subst (λ (ls : List Standing). IsLine ls q f) c.as_slice-2.ensures l)).symmetric
