use Rattle.trim_search.proofs.NumberLemmas.{index-distinct}
use Rattle.trim_search.proofs.numbering.OrderedStatesStateNumbering.names.Goals as goal

pub returns-clause-distinct : goal.returns-clause-distinct
returns-clause-distinct g c = rw (← c.self.view_is) (index-distinct g.S.Ord.cmp c.self.inside.names.items c.self.inside.index c.self.invariant)
