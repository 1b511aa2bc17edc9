-- What is searched, what is found, and how far a concatenation is cut.
use Rattle.std.specs.Prelude.{◌≡◌, ◌↔◌, ℕ, ◌<◌, ◌^◌, ◌≤ℤ◌, pos, IsTrue, false, [], length, take}
use Rattle.sv_linear.specs.Rows.{MeetsRows}
use Rattle.cube_bounds.specs.Growth.{reach}
use Rattle.cube_bounds.specs.Sides.{IsSmall}
use Rattle.flat_cubes.specs.Straight.{HasFormed, IsStraight}
use Rattle.flat_cubes.specs.declared.flat.Flat.{Flat}
use Rattle.leaf_solve.specs.Longs.{letters}
use Rattle.backward.specs.Chains.{width}
use Rattle.backward.specs.Families.{Family}
use Rattle.backward.specs.Leaves.{source_words, Obey}
use Rattle.backward.specs.Runs.{AreRuns, run_words, run_totals}
use Rattle.backward.specs.States.{IsLittle}
use Rattle.cube_region.specs.Regions.{IsRegionFor}
use Rattle.cube_search.specs.declared.found.FoundRuns.{FoundRuns}
use Rattle.cube_search.specs.declared.searching.Search.{Search}

-- a straight cube that isn't broken, with its region and numbers; words grow little, and with rows some characters are within reach
pub record IsSearch (search : Search) : Type 0 where
  pub straight : IsStraight search.flat.now
  pub formed : HasFormed search.flat.now
  pub little : IsLittle search.flat.now
  pub whole : search.flat.now.broken ≡ false
  pub few : length search.flat.now.variables < 2 ^ 32
  pub region : IsRegionFor search.flat.now search.region
  pub is_small : IsTrue search.small ↔ IsSmall search.flat.now
  pub is_reach : search.reach ≡ reach search.flat.now
  pub reachable : (search.flat.now.rows ≡ [] → ⊥) → pos 0 ≤ℤ reach search.flat.now

-- runs of the machines of a family, of which so many definitions are still to be carried: they obey these definitions, and with the numbers meet the rows of the cube; the source words are within reach
pub record AreFoundRuns (flat : Flat) (left : ℕ) (ms : Family) (found : FoundRuns) : Type 0 where
  pub runs : AreRuns ms found.runs
  pub obey : Obey (take left flat.definitions) (run_words found.runs)
  pub rows : MeetsRows (length flat.integers) flat.rows found.integers (run_totals (width flat) found.runs)
  pub within : pos (letters (source_words flat (run_words found.runs))) ≤ℤ reach flat
