use Rattle.std.proofs.Common.{◌≡◌, drop, nat_eq}
use Rattle.std.specs.Cmp.Lexicographic.{pointwise}
use Rattle.indexmap.specs.IndexMap.{insert_all}
use Rattle.cube_search.specs.Entries.{string_entries}
use Rattle.cube_search.proofs.modelling.set_strings.Given as goal

abbrev pub invariant-loop-v : goal.invariant-loop-v
invariant-loop-v l = insert_all (pointwise nat_eq) l.model (string_entries l.runs l.v (drop l.v l.variables)) ≡ insert_all (pointwise nat_eq) l.fn.model (string_entries l.runs 0 l.variables)
