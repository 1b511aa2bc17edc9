-- The numbers of a flat cube as they are answered: cut off at the greatest number of 64 bits.
use Rattle.std.specs.Prelude.{◌≡◌, ◌↔◌, IsTrue}
use Rattle.std.specs.Option.{option_map}
use Rattle.sv_terms.specs.CutOff.{cut_off}
use Rattle.cube_bounds.specs.Bounds.{states, splits, sources}
use Rattle.cube_bounds.specs.Growth.{growth, reach}
use Rattle.cube_bounds.specs.Sides.{points, sides, IsSmall}
use Rattle.flat_cubes.specs.declared.flat.Flat.{Flat}
use Rattle.cube_bounds.specs.declared.measures.Numbers.{Numbers}

-- the numbers of this cube
pub record AreNumbersOf (flat : Flat) (numbers : Numbers) : Type 0 where
  pub states : numbers.states ≡ cut_off (states flat)
  pub splits : numbers.splits ≡ cut_off (splits flat)
  pub sources : numbers.sources ≡ cut_off (sources flat)
  pub growth : numbers.growth ≡ cut_off (growth flat)
  pub reach : numbers.reach ≡ reach flat
  pub points : numbers.points ≡ option_map cut_off (points flat)
  pub sides : numbers.sides ≡ sides flat
  pub small : IsTrue numbers.small ↔ IsSmall flat
