-- The verdicts on the blocks of a generated script, and how many there are of each.
use Rattle.std.specs.Prelude.{ℕ, zero, suc, ◌+◌, Bool, true, false, not, ⊤}
use Rattle.decide.specs.declared.verdict.Verdict.{Verdict}
use Rattle.decide.specs.declared.verdict.Verdict.TheVariants.{Sat, Unsat}
use Rattle.generated_items.specs.Items.{block_at, number_at}
use Rattle.generated_script.specs.Draws.{behind, seeded}
use Rattle.generated_script.specs.declared.tally.VerdictCounts.{VerdictCounts}
use Rattle.generated_terms.specs.Terms.{has_values}

-- sat where there are values, else unsat
abbrev pub IsVerdictBy : Bool → Verdict → Type 0
IsVerdictBy true (Sat values) = ⊤
IsVerdictBy true _ = ⊥
IsVerdictBy false (Unsat refutation) = ⊤
IsVerdictBy false _ = ⊥

abbrev pub one_if : Bool → ℕ
one_if true = 1
one_if false = 0

-- whether the block that is drawn behind this number has values
abbrev pub is_sat_at : ℕ → Bool
is_sat_at s = has_values (block_at s) (number_at s)

-- how many of so many blocks, drawn behind this number, have values, and how many have none
abbrev pub sat_from : ℕ → ℕ → ℕ
sat_from s zero = 0
sat_from s (suc n) = one_if (is_sat_at s) + sat_from (behind s) n

abbrev pub unsat_from : ℕ → ℕ → ℕ
unsat_from s zero = 0
unsat_from s (suc n) = one_if (not (is_sat_at s)) + unsat_from (behind s) n

-- of the generated script of a seed, with so many blocks
abbrev pub sat_count : ℕ → ℕ → ℕ
sat_count seed size = sat_from (seeded seed) size

abbrev pub unsat_count : ℕ → ℕ → ℕ
unsat_count seed size = unsat_from (seeded seed) size

-- the verdicts on it
abbrev pub table_of : ℕ → ℕ → VerdictCounts
table_of seed size = record { sat = sat_count seed size; unsat = unsat_count seed size; unknown = 0 }
