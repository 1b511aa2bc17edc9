-- What the leaves that were answered come to.
use Rattle.std.specs.Prelude.{◌≡◌, ◌≢◌, ℕ, ◌<ℤ◌, ℤ, pos, ◌⊎◌, List, [], ◌++◌, length, take, Some, MatchOption, IsSome, slice_get, ⊤}
use Rattle.machine_core.specs.declared.graph.Graph.{Graph}
use Rattle.farkas_check.specs.declared.system.System.{System}
use Rattle.lia_branch.specs.declared.evidence.Evidence.{Evidence}
use Rattle.leaf_solve.specs.Longs.{letters}
use Rattle.leaf_solve.specs.declared.long_shown.LongShown.{LongShown}
use Rattle.sv_linear.specs.Rows.{MeetsRows}
use Rattle.search_hits.specs.Regions.{IsInRegion}
use Rattle.search_hits.specs.declared.region.Region.{Region}
use Rattle.cube_bounds.specs.Growth.{reach}
use Rattle.cube_bounds.specs.Sides.{IsSmall}
use Rattle.flat_cubes.specs.declared.definition.By.TheVariants.{Concat}
use Rattle.flat_cubes.specs.declared.flat.Flat.{Flat}
use Rattle.backward.specs.Chains.{width}
use Rattle.backward.specs.Definitions.{definition}
use Rattle.backward.specs.Families.{Family, Words, HasMachine, Conf}
use Rattle.backward.specs.Leaves.{IsLeaf, source_words, Obey}
use Rattle.backward.specs.Pieces.{ConfCut, AreCuts}
use Rattle.backward.specs.declared.leaf_state.LeafState.{LeafState}
use Rattle.cube_search.specs.Limits.{MustDecideFlat}
use Rattle.cube_search.specs.OpenLeaves.{HasGivenUp, IsLongFor}
use Rattle.cube_search.specs.declared.tally.LeafTally.{LeafTally}
use Rattle.cube_search.specs.Causes.{HaveRunsOn}
use Rattle.cube_search.specs.Steps.{IsNextFamily}

-- the leaves that are kept are leaves, with what shows that they are open
pub record IsTally (flat : Flat) (tally : LeafTally) : Type 0 where
  pub given : MatchOption tally.given ⊤ (λ g. IsLeaf flat g.machines × HasGivenUp flat g.machines g.system g.evidence × (flat.rows ≢ []) × (IsSmall flat → ⊥))
  pub long : MatchOption tally.long ⊤ (λ l. IsLeaf flat l.machines × IsLongFor flat l.machines l.shown)
  pub undecided : IsSome tally.long → MustDecideFlat flat → ⊥

-- what was kept of each kind is still there
pub record Keeps (old new : LeafTally) : Type 0 where
  pub given : IsSome old.given → IsSome new.given
  pub long : IsSome old.long → IsSome new.long

-- a leaf reads the source words with these totals, and nothing of it is in the region
pub record IsReadBy (flat : Flat) (region : Region) (words : Words) (totals : List ℕ) (ints : List ℤ) (machines : List Graph) : Type 0 where
  pub leaf : IsLeaf flat machines
  pub reads : HaveRunsOn (width flat) machines (source_words flat words) totals
  pub outside : IsInRegion region ints totals → ⊥

-- the solver gave up on a leaf that reads the words, and the tally knows of such a leaf; or that leaf is too long, and the tally knows of such a one
abbrev pub IsAccounted : Flat → Region → LeafTally → Words → List ℕ → List ℤ → Type 0
IsAccounted flat region tally words totals ints =
    ((machines : List Graph) × IsReadBy flat region words totals ints machines × IsSome tally.given
    × ((system : System) × (evidence : Evidence) × HasGivenUp flat machines system evidence))
    ⊎ ((machines : List Graph) × IsReadBy flat region words totals ints machines × IsSome tally.long
    × (reach flat <ℤ pos (letters (source_words flat words))) × ((shown : LongShown) × IsLongFor flat machines shown))

-- whatever the family reads, where it obeys the definitions that are left and meets the rows with some numbers, is accounted for
abbrev pub IsCovered : Flat → Region → ℕ → Family → LeafTally → Type 0
IsCovered flat region left ms tally = (words : Words) (totals : List ℕ) (ints : List ℤ)
    → Conf (width flat) ms words totals → Obey (take left flat.definitions) words
    → MeetsRows (length flat.integers) flat.rows ints totals → IsAccounted flat region tally words totals ints

-- so is whatever it reads with the machine of x, the concatenation of these pieces, cut at states of which the first are these
abbrev pub IsCoveredFrom : Flat → Region → ℕ → ℕ → List ℕ → Family → List ℕ → LeafTally → Type 0
IsCoveredFrom flat region at x pieces ms cuts tally = (words : Words) (totals : List ℕ) (ints : List ℤ) (rest : List ℕ) (m : Graph)
    → HasMachine ms x m → AreCuts m pieces (cuts ++ rest) → ConfCut (width flat) ms x pieces (cuts ++ rest) words totals → Obey (take at flat.definitions) words
    → MeetsRows (length flat.integers) flat.rows ints totals → IsAccounted flat region tally words totals ints

-- so where the definition at this place is that concatenation
abbrev pub AreCoveredFrom : Flat → Region → ℕ → List ℕ → Family → List ℕ → LeafTally → Type 0
AreCoveredFrom flat region at pieces ms cuts tally = (x : ℕ) → slice_get flat.definitions at ≡ Some (definition x (Concat pieces)) → IsCoveredFrom flat region at x pieces ms cuts tally

-- so is whatever the family with the definition at this place carried reads
abbrev pub IsCoveredBelow : Flat → Region → ℕ → List ℕ → LeafState → LeafTally → Type 0
IsCoveredBelow flat region at cuts state tally = (next : LeafState) × IsNextFamily flat at cuts state next × IsCovered flat region at next.machines tally
