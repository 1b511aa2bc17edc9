use Rattle.std.proofs.Common.{◌≡◌, drop, nat_eq}
use Rattle.std.specs.Cmp.Lexicographic.{pointwise}
use Rattle.indexmap.specs.IndexMap.{insert_all}
use Rattle.cube_search.specs.Entries.{truth_entries}
use Rattle.cube_search.proofs.modelling.set_truths.Given as goal

abbrev pub invariant-loop-truth : goal.invariant-loop-truth
invariant-loop-truth l = insert_all (pointwise nat_eq) l.model (truth_entries (drop l.truth-index l.truths)) ≡ insert_all (pointwise nat_eq) l.fn.model (truth_entries l.truths)
