use Rattle.trim_search.proofs.TableLemmas.{table-distinct}
use Rattle.trim_search.proofs.numbering.DenseStateNumberingU32.names.Goals as goal

pub returns-clause-distinct : goal.returns-clause-distinct
returns-clause-distinct c = rw (← c.self.view_is) (table-distinct c.self.inside.names c.self.inside.table c.self.invariant)
