use Rattle.std.proofs.Common.{◌≡◌, drop}
use Rattle.std.specs.List.{list_all}
use Rattle.sort_check.specs.Checking.{has_values}
use Rattle.sort_check.proofs.asking.all_have_values.Given as goal

abbrev pub invariant-loop-sort : goal.invariant-loop-sort
invariant-loop-sort l = list_all has_values (drop l.sort-index l.sorts) ≡ list_all has_values l.sorts
