-- What the marks of a search tell.
use Rattle.std.specs.Prelude.{◌≡◌, ℕ, ℤ, List}
use Rattle.sv_linear.specs.declared.row.Row.{Row}
use Rattle.machine_core.specs.declared.graph.Graph.{Graph}
use Rattle.machine_core.specs.declared.run.Run.{Run}
use Rattle.search_hits.specs.Regions.{IsHitWithin, IsShortHit}
use Rattle.search_hits.specs.declared.region.Region.{Region}
use Rattle.box_search.specs.declared.by_marks.Told.{Told}
use Rattle.box_search.specs.declared.by_marks.Told.TheVariants.{Nothing, Found, Unknown}

-- no runs and numbers are a hit, or these are one with short words, or nothing is claimed
abbrev pub IsTold : List Graph → ℕ → List Row → Region → Told → Type 0
IsTold machines integers rows region Nothing = (runs : List (Run ℕ)) (numbers : List ℤ) → IsHitWithin machines integers rows region runs numbers → ⊥
IsTold machines integers rows region (Found hit) = IsShortHit machines integers rows region hit.runs hit.integers
IsTold machines integers rows region Unknown = Unknown ≡ Unknown
