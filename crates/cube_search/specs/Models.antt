-- The values of the constants of a flat cube, by runs and numbers.
use Rattle.std.specs.Prelude.{ℕ, List, length, map, Option}
use Rattle.std.specs.List.{range_with_len}
use Rattle.sv_terms.specs.Language.{Word}
use Rattle.sv_terms.specs.Meaning.{Named}
use Rattle.machine_core.specs.declared.run.Run.{Run}
use Rattle.flat_cubes.specs.Satisfying.{AreModelValues}
use Rattle.flat_cubes.specs.declared.flat.Flat.{Flat}
use Rattle.cube_search.specs.Entries.{word_by}
use Rattle.cube_search.specs.declared.found.FoundRuns.{FoundRuns}

-- the words of the runs, one for each of so many variables
abbrev pub all_words : ℕ → List (Option (Run ℕ)) → List Word
all_words n rs = map (word_by rs) (range_with_len 0 n)

-- the values are those of the words of the runs and of the numbers
abbrev pub IsNamedBy : Flat → FoundRuns → Named → Type 0
IsNamedBy flat found values = AreModelValues flat (all_words (length flat.variables) found.runs) found.integers values
