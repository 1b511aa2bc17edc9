-- What comes back from the system that is left.
use Rattle.std.specs.Prelude.{◌≡◌, ℤ, List, All, length}
use Rattle.farkas_check.specs.Cuts.{values_of}
use Rattle.farkas_check.specs.Systems.{Meets, rows_of}
use Rattle.farkas_check.specs.declared.system.System.{System}

-- a value for each unknown, which meet the rows
pub record IsPointOf (s : System) (point : List ℤ) : Type 0 where
  pub size : length point ≡ s.unknowns
  pub meets : All (Meets (values_of point)) (rows_of s)
