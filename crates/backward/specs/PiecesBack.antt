-- Runs taken back over a concatenation, from the first piece to the last.
use Rattle.std.specs.Prelude.{◌≡◌, ℕ, nat_eq, cond, List, [], ◌∷◌, ◌++◌, length, map, take, drop, Option, None, MatchOption, slice_get}
use Rattle.machine_core.specs.declared.graph.Graph.{Graph}
use Rattle.machine_core.specs.declared.run.Run.{Run}
use Rattle.machine_core.specs.Costs.{add_costs}
use Rattle.machine_core.specs.Runs.{run_total}
use Rattle.sv_terms.specs.Meaning.{joined}
use Rattle.backward.specs.Families.{Family, HasMachine}
use Rattle.backward.specs.Pieces.{first_of}
use Rattle.backward.specs.Kept.{IsPartRun}
use Rattle.backward.specs.Made.{AreMet}
use Rattle.backward.specs.Runs.{Runs, AreRuns, run_words, run_totals}
use Rattle.backward.specs.declared.meeting.MetPart.{MetPart}

-- the meeting of the first of these pieces that is v; the meetings stand from the last piece to the first
abbrev pub met_at : ℕ → List ℕ → List MetPart → Option MetPart
met_at v [] qs = None
met_at v (p ∷ ps) qs = cond (nat_eq p v) (slice_get qs (length ps)) (met_at v ps qs)

-- the machine of v once these pieces are met: that of the first of them that is v, or else that of the family
abbrev pub HasMet : Family → ℕ → List ℕ → List MetPart → Graph → Type 0
HasMet ms v ps qs k = MatchOption (met_at v ps qs) (HasMachine ms v k) (λ (q : MetPart). k ≡ q.small.machine)

-- So many pieces are taken back: the runs are of the family in which only the others are met, on the words that they had, and `whole` is a run of the machine
-- that was cut, up to the next cut, on the joined words of these pieces, at what the runs cost less.
pub record AreTakenBack (target : Graph) (base : Family) (cuts pieces : List ℕ) (meetings : List MetPart) (old : Runs) (place : ℕ) (runs : Runs) (whole : Run ℕ) : Type 0 where
  pub family : Family
  pub left : List MetPart
  pub done : List MetPart
  pub split : meetings ≡ left ++ done
  pub count : length done ≡ place
  pub met : AreMet target (drop place (0 ∷ cuts)) (drop place pieces) base left family
  pub are : AreRuns family runs
  pub words : (v : ℕ) → run_words runs v ≡ run_words old v
  pub totals : (width : ℕ) → add_costs (run_total whole) (run_totals width runs) ≡ run_totals width old
  pub word : whole.word ≡ joined (map (run_words old) (take place pieces))
  pub run : IsPartRun target 0 (first_of (drop place (0 ∷ cuts))) whole
