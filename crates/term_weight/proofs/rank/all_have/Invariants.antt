use Rattle.std.proofs.Common.{◌≡◌, drop}
use Rattle.std.specs.List.{list_all}
use Rattle.sv_terms.specs.Sorting.{same_sort}
use Rattle.term_weight.proofs.rank.all_have.Given as goal

abbrev pub invariant-loop-other : goal.invariant-loop-other
invariant-loop-other l = list_all (same_sort l.sort) (drop l.other-index l.sorts) ≡ list_all (same_sort l.sort) l.sorts
