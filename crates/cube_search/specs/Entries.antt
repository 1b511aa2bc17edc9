-- The entries of a model: each name of a variable with its word, each integer constant with its number, and each truth.
use Rattle.std.specs.Prelude.{ℕ, suc, ℤ, Bool, List, [], ◌∷◌, ◌++◌, map, get_or, Option, Some, None}
use Rattle.sv_terms.specs.Language.{Word}
use Rattle.sv_terms.specs.Meaning.{Named}
use Rattle.sv_terms.specs.declared.value.Value.TheVariants as value
use Rattle.machine_core.specs.declared.run.Run.{Run}
use Rattle.flat_cubes.specs.declared.flat.Flat.{Flat}
use Rattle.flat_cubes.specs.declared.variable.Variable.{Variable}
use Rattle.cube_search.specs.declared.found.FoundRuns.{FoundRuns}

-- the word of a run, empty where there is none
abbrev pub word_of : Option (Run ℕ) → Word
word_of None = []
word_of (Some run) = run.word

-- the word of the run at a place
abbrev pub word_by : List (Option (Run ℕ)) → ℕ → Word
word_by rs v = word_of (get_or rs v None)

-- each name with the word
abbrev pub text_entries : Word → List (List ℕ) → Named
text_entries w names = map (λ n. (n, value.Text w)) names

-- the names of the variables, which are numbered from v on, with the words of the runs
abbrev pub string_entries : List (Option (Run ℕ)) → ℕ → List Variable → Named
string_entries rs v [] = []
string_entries rs v (x ∷ xs) = text_entries (word_by rs v) x.names ++ string_entries rs (suc v) xs

abbrev pub number_entries : List (List ℕ) → List ℤ → Named
number_entries [] zs = []
number_entries (n ∷ ns) [] = []
number_entries (n ∷ ns) (z ∷ zs) = (n, value.Number z) ∷ number_entries ns zs

abbrev pub truth_entries : List (List ℕ × Bool) → Named
truth_entries ts = map (λ (t : List ℕ × Bool). (t.0, value.Truth t.1)) ts

abbrev pub all_entries : Flat → FoundRuns → Named
all_entries flat found = string_entries found.runs 0 flat.variables ++ number_entries flat.integers found.integers ++ truth_entries flat.truths
