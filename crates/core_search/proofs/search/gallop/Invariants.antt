use Rattle.std.proofs.Common.{◌≤◌, ◌-◌, length}
use Rattle.core_search.specs.Searches.{Leads}
use Rattle.core_search.proofs.search.gallop.Given as goal

abbrev pub invariant-rising : goal.invariant-rising
invariant-rising g l = record {
  leads : Leads l.terms l.names l.fn.search l.search;
  some : 1 ≤ l.step;
}

abbrev pub decreases-rising : goal.decreases-rising
decreases-rising g l = length l.names - l.search.tried
