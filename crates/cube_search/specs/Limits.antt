-- The limits on the numbers of a flat cube's text, and where it must be decided.
use Rattle.std.specs.Prelude.{◌≡◌, ℕ, pos, ◌*◌, ◌≤◌, ◌≤ℤ◌, ◌⊎◌, []}
use Rattle.cube_bounds.specs.Bounds.{states, splits, sources}
use Rattle.cube_bounds.specs.Growth.{growth, reach, longest_word}
use Rattle.cube_bounds.specs.Sides.{IsSmall}
use Rattle.flat_cubes.specs.declared.flat.Flat.{Flat}

-- no machine of a variable has more states
abbrev pub most_states : ℕ
most_states = 262144

-- there are no more ways to cut the machines of all concatenations
abbrev pub most_splits : ℕ
most_splits = 1048576

-- words don't grow past the longest one of a model, which counts where there are rows
abbrev pub GrowsLittle : Flat → Type 0
GrowsLittle flat = (flat.rows ≡ []) ⊎ (growth flat ≤ longest_word)

-- no number of the text is past its limit
pub record IsWithinLimits (flat : Flat) : Type 0 where
  pub few_states : states flat ≤ most_states
  pub few_splits : splits flat ≤ most_splits
  pub little_growth : GrowsLittle flat

-- the numbers of the text within which a cube must be decided
pub record MustDecideFlat (flat : Flat) : Type 0 where
  pub few_states : states flat ≤ most_states
  pub few_splits : splits flat ≤ most_splits
  pub search : IsSmall flat ⊎ ((flat.rows ≡ []) × (pos (states flat * sources flat) ≤ℤ reach flat))
