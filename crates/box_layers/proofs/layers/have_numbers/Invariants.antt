use Rattle.std.proofs.Common.{◌<◌, ℕ, ℤ, get_or}
use Rattle.search_hits.specs.Boxes.{IsSide}
use Rattle.box_layers.proofs.layers.have_numbers.Given as goal

abbrev pub invariant-loop-low : goal.invariant-loop-low
invariant-loop-low l = (k : ℕ) (d : ℤ × ℤ) → k < l.low-index → IsSide (get_or l.sides k d)
