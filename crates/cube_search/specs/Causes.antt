-- Why a flat cube is left open.
use Rattle.std.specs.Prelude.{◌≡◌, ◌≢◌, ℕ, ℤ, pos, ◌<◌, ◌<ℤ◌, List, [], map, ⊤}
use Rattle.sv_terms.specs.CutOff.{cut_off}
use Rattle.sv_terms.specs.Language.{Word}
use Rattle.machine_core.specs.declared.graph.Graph.{Graph}
use Rattle.machine_core.specs.declared.run.Run.{Run}
use Rattle.search_hits.specs.Hits.{AreRunsOf, runs_total}
use Rattle.farkas_check.specs.declared.system.System.{System}
use Rattle.lia_branch.specs.declared.evidence.Evidence.{Evidence}
use Rattle.leaf_solve.specs.declared.long_shown.LongShown.{LongShown}
use Rattle.cube_bounds.specs.Bounds.{states, splits}
use Rattle.cube_bounds.specs.Growth.{growth, longest_word, reach}
use Rattle.cube_bounds.specs.NumberLaws.{source_length}
use Rattle.cube_bounds.specs.Sides.{IsSmall}
use Rattle.flat_cubes.specs.Satisfying.{Satisfies, lengths_of, word_at}
use Rattle.flat_cubes.specs.declared.flat.Flat.{Flat}
use Rattle.backward.specs.Chains.{width}
use Rattle.backward.specs.Leaves.{IsLeaf, source_words}
use Rattle.cube_region.specs.Regions.{Near}
use Rattle.cube_search.specs.Limits.{GrowsLittle, most_states, most_splits}
use Rattle.cube_search.specs.OpenLeaves.{HasGivenUp, IsLeftOpen, IsLongFor}
use Rattle.cube_search.specs.declared.reason.OpenReason.{OpenReason}
use Rattle.cube_search.specs.declared.reason.OpenReason.TheVariants as reason
use Rattle.cube_search.specs.declared.limits.PastLimit.{PastLimit}
use Rattle.cube_search.specs.declared.limits.PastLimit.TheVariants as past

-- the fact holds of all words and numbers that satisfy the cube
abbrev pub EachSolution : Flat → (List Word → List ℤ → Type 0) → Type 0
EachSolution flat P = (ws : List Word) (ints : List ℤ) → Satisfies flat ws ints → P ws ints

-- runs of the machines, one of each in their order, are on these words and cost these totals together
pub record HaveRunsOn (registers : ℕ) (machines : List Graph) (words : List Word) (totals : List ℕ) : Type 0 where
  pub runs : List (Run ℕ)
  pub each : AreRunsOf machines runs
  pub on : map (λ (run : Run ℕ). run.word) runs ≡ words
  pub cost : runs_total registers runs ≡ totals

-- some leaf that is left open reads the source words, with the lengths of the registers
pub record IsLeftTo (flat : Flat) (ws : List Word) : Type 0 where
  pub machines : List Graph
  pub leaf : IsLeaf flat machines
  pub reads : HaveRunsOn (width flat) machines (source_words flat (word_at ws)) (lengths_of flat.registers ws)
  pub open_leaf : IsLeftOpen flat machines

-- no words that satisfy the cube have source words with so few characters together as are within reach
pub record IsTooLong (flat : Flat) (machines : List Graph) (shown : LongShown) : Type 0 where
  pub leaf : IsLeaf flat machines
  pub beyond : EachSolution flat (λ ws ints. reach flat <ℤ pos (source_length flat ws))
  pub is_shown : IsLongFor flat machines shown

-- the solver gave up, and so it did on whatever may satisfy the cube, none of which is near 0
pub record IsGivenUp (flat : Flat) (machines : List Graph) (system : System) (evidence : Evidence) : Type 0 where
  pub has_rows : flat.rows ≢ []
  pub not_small : IsSmall flat → ⊥
  pub none_near : EachSolution flat (λ ws ints. Near flat ints (lengths_of flat.registers ws) → ⊥)
  pub leaf : IsLeaf flat machines
  pub given_up : HasGivenUp flat machines system evidence
  pub every : EachSolution flat (λ ws ints. IsLeftTo flat ws)

-- a limit that a number of the text is past, words that are too long, or a solver that gave up; what makes a cube no straight one is no cause of a flat cube
abbrev pub IsCauseOf : Flat → OpenReason → Type 0
IsCauseOf flat (reason.Fragment shown) = ⊥
IsCauseOf flat (reason.Wide n) = ⊥
IsCauseOf flat (reason.States n) = (n ≡ cut_off (states flat)) × (most_states < n)
IsCauseOf flat (reason.Splits n) = (n ≡ cut_off (splits flat)) × (most_splits < n)
IsCauseOf flat (reason.Growth n) = (n ≡ cut_off (growth flat)) × (longest_word < n) × (flat.rows ≢ [])
IsCauseOf flat (reason.Length machines shown) = IsTooLong flat machines shown
IsCauseOf flat (reason.Arithmetic machines system evidence) = IsGivenUp flat machines system evidence

-- why a cube whose text is past this limit is left open
abbrev pub past_reason : PastLimit → OpenReason
past_reason (past.States n) = reason.States n
past_reason (past.Splits n) = reason.Splits n
past_reason (past.Growth n) = reason.Growth n

-- growth is the first limit that is told, so words grow little where it is another
abbrev pub GrowsLittleUnless : Flat → PastLimit → Type 0
GrowsLittleUnless flat (past.States n) = GrowsLittle flat
GrowsLittleUnless flat (past.Splits n) = GrowsLittle flat
GrowsLittleUnless flat (past.Growth n) = ⊤
