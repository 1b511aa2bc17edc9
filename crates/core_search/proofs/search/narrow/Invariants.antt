use Rattle.std.proofs.Common.{◌-◌}
use Rattle.core_search.specs.Searches.{Leads, IsBound}
use Rattle.core_search.proofs.search.narrow.Given as goal

abbrev pub invariant-halves : goal.invariant-halves
invariant-halves g l = record {
  leads : Leads l.terms l.names l.fn.search l.search;
  bound : IsBound l.terms l.names l.search l.bound;
}

abbrev pub decreases-halves : goal.decreases-halves
decreases-halves g l = l.bound.to - l.search.tried
