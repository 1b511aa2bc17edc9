use Rattle.std.proofs.Common.{◌≡◌}
use Rattle.core_search.specs.Searches.{all_out, between}
use Rattle.core_search.proofs.search.leave_out.Given as goal

-- the names so far are left out
abbrev pub invariant-loop-at : goal.invariant-loop-at
invariant-loop-at l = l.all ≡ all_out (between l.low l.at l.names) l.outs
