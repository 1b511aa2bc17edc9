-- The machines of a leaf of a flat cube, and what is answered for them by the numbers of the cube.
use Rattle.std.specs.Prelude.{◌≡◌, ◌≢◌, ℕ, pos, ◌≤◌, ◌≤ℤ◌, ◌<ℤ◌, List, [], length, map, All}
use Rattle.machine_core.specs.declared.graph.Graph.{Graph}
use Rattle.machine_core.specs.declared.run.Run.{Run}
use Rattle.farkas_check.specs.declared.system.System.{System}
use Rattle.lia_branch.specs.declared.evidence.Evidence.{Evidence}
use Rattle.search_hits.specs.Hits.{IsHit, characters}
use Rattle.search_hits.specs.declared.hit.Hit.{Hit}
use Rattle.search_hits.specs.declared.region.Region.{Region}
use Rattle.leaf_solve.specs.Longs.{HasRun}
use Rattle.leaf_solve.specs.Questions.{EachHit, LieIn}
use Rattle.leaf_solve.specs.declared.leaf_answer.LeafAnswer.{LeafAnswer}
use Rattle.leaf_solve.specs.declared.leaf_answer.LeafAnswer.TheVariants as leaf
use Rattle.leaf_solve.specs.declared.long_shown.LongShown.{LongShown}
use Rattle.leaf_solve.specs.declared.long_shown.LongShown.TheVariants.{Words}
use Rattle.sv_terms.specs.Language.{Word}
use Rattle.cube_bounds.specs.Bounds.{sources, states}
use Rattle.cube_bounds.specs.Growth.{reach}
use Rattle.cube_bounds.specs.Sides.{IsSmall}
use Rattle.flat_cubes.specs.declared.flat.Flat.{Flat}
use Rattle.cube_search.specs.OpenLeaves.{HasGivenUp, IsLongFor}

-- machines as those of a leaf: one for each source variable, of few states, with the registers of the cube
pub record AreOfLeaf (flat : Flat) (machines : List Graph) : Type 0 where
  pub count : length machines ≡ sources flat
  pub wide : All (λ m. m.registers ≡ length flat.registers) machines
  pub few : All (λ m. m.states ≤ states flat) machines

-- the words of runs
abbrev pub words_of : List (Run ℕ) → List Word
words_of runs = map (λ (run : Run ℕ). run.word) runs

-- a hit as words that are too long
abbrev pub past_words : LeafAnswer → LeafAnswer
past_words (leaf.Sat hit) = leaf.Long (Words (words_of hit.runs))
past_words answer = answer

module _ (flat : Flat) (region : Region) (machines : List Graph) where
  abbrev pub EachHitOf : (List (Run ℕ) → Type 0) → Type 0
  EachHitOf fact = EachHit machines (length flat.registers) (length flat.integers) flat.rows (λ runs numbers. fact runs)

  pub record IsHitOf (hit : Hit) : Type 0 where
    pub is_hit : IsHit machines (length flat.registers) (length flat.integers) flat.rows hit.runs hit.integers
    pub within : pos (characters hit.runs) ≤ℤ reach flat

  -- each machine has a run, and whatever meets the rows lies outside the region
  pub record IsLeafOutside : Type 0 where
    pub inhabited : All HasRun machines
    pub none_in_region : EachHit machines (length flat.registers) (length flat.integers) flat.rows (λ runs numbers. LieIn region runs numbers → ⊥)

  pub record IsPastReach (shown : LongShown) : Type 0 where
    pub outside : IsLeafOutside
    pub past : EachHitOf (λ runs. reach flat <ℤ pos (characters runs))
    pub is_shown : IsLongFor flat machines shown

  pub record IsUndecided (system : System) (evidence : Evidence) : Type 0 where
    pub outside : IsLeafOutside
    pub has_rows : flat.rows ≢ []
    pub not_small : IsSmall flat → ⊥
    pub given_up : HasGivenUp flat machines system evidence

  -- what is answered for the machines by the numbers of the cube: a hit within reach, that none is there, that all are past it, or that the solver gave up
  abbrev pub IsAnswerFor : LeafAnswer → Type 0
  IsAnswerFor (leaf.Sat hit) = IsHitOf hit
  IsAnswerFor (leaf.Closed closing) = EachHitOf (λ runs. ⊥)
  IsAnswerFor (leaf.Long shown) = IsPastReach shown
  IsAnswerFor (leaf.Open system evidence) = IsUndecided system evidence
