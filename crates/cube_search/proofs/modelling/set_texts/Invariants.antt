use Rattle.std.proofs.Common.{◌≡◌, drop, nat_eq}
use Rattle.std.specs.Cmp.Lexicographic.{pointwise}
use Rattle.indexmap.specs.IndexMap.{insert_all}
use Rattle.cube_search.specs.Entries.{text_entries, word_by}
use Rattle.cube_search.proofs.modelling.set_texts.Given as goal

abbrev pub invariant-loop-name : goal.invariant-loop-name
invariant-loop-name l = insert_all (pointwise nat_eq) l.model (text_entries (word_by l.runs l.place) (drop l.name-index l.names)) ≡ insert_all (pointwise nat_eq) l.fn.model (text_entries (word_by l.runs l.place) l.names)
