use Rattle.std.proofs.Common.{◌≡◌, drop, nat_eq}
use Rattle.std.specs.Cmp.Lexicographic.{pointwise}
use Rattle.indexmap.specs.IndexMap.{insert_all}
use Rattle.cube_search.specs.Entries.{number_entries}
use Rattle.cube_search.proofs.modelling.set_numbers.Given as goal

abbrev pub invariant-loop-i : goal.invariant-loop-i
invariant-loop-i l = insert_all (pointwise nat_eq) l.model (number_entries (drop l.i l.names) (drop l.i l.numbers)) ≡ insert_all (pointwise nat_eq) l.fn.model (number_entries l.names l.numbers)
