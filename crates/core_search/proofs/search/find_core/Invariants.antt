use Rattle.std.proofs.Common.{◌-◌, ◌++◌, List, length, drop}
use Rattle.core_search.specs.Cores.{Entry, IsCoreFrom, all_stay}
use Rattle.core_search.specs.Searches.{Stands}
use Rattle.core_search.proofs.search.find_core.Given as goal

abbrev pub invariant-names : goal.invariant-names
invariant-names g l = record {
  stands : Stands l.terms l.names l.search;
  listed : (late : List Entry) → IsCoreFrom l.terms l.search.outs (drop l.search.tried l.names) late → IsCoreFrom l.terms (all_stay l.named) l.names (l.list ++ late);
}

abbrev pub decreases-names : goal.decreases-names
decreases-names g l = length l.names - l.search.tried
