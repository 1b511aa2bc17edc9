-- What is printed of the verdicts on a generated script.
use Rattle.std.specs.Prelude.{ℕ, List, [], ◌∷◌, ◌++◌, codes}
use Rattle.std.specs.Fmt.{decimal}
use Rattle.generated_script.specs.declared.tally.VerdictCounts.{VerdictCounts}

abbrev pub summary_text : ℕ → VerdictCounts → List ℕ
summary_text size t = codes "generated " ++ decimal size ++ codes " sat " ++ decimal t.sat ++ codes " unsat " ++ decimal t.unsat ++ codes " unknown " ++ decimal t.unknown ++ 10 ∷ []
