-- What is known of a flat cube that is answered, and of its numbers.
use Rattle.std.specs.Prelude.{◌≡◌, ◌<◌, ◌^◌, [], length}
use Rattle.cube_bounds.specs.Measuring.{AreNumbersOf}
use Rattle.cube_bounds.specs.declared.measures.Numbers.{Numbers}
use Rattle.flat_cubes.specs.Straight.{AreNamesApart, HasFormed, IsStraight}
use Rattle.flat_cubes.specs.declared.flat.Flat.{Flat}

-- what a flattening makes, with the numbers of its text
pub record IsAnswerable (flat : Flat) (measured : Numbers) : Type 0 where
  pub straight : IsStraight flat
  pub formed : HasFormed flat
  pub apart : AreNamesApart flat
  pub few : length flat.variables < 2 ^ 32
  pub bare : flat.rows ≡ [] → flat.registers ≡ []
  pub numbers : AreNumbersOf flat measured
