use Rattle.std.proofs.Common.{ℕ, ◌<◌, ◌≤◌, ◌∷◌, []}
use Rattle.box_layers.specs.Layers.{AreGoodTotals}
use Rattle.total_marks.specs.Marks.{HasBit}
use Rattle.box_search.proofs.totals.first_good.Given as goal

abbrev pub invariant-loop-total : goal.invariant-loop-total
invariant-loop-total l = (t : ℕ) → l.low ≤ t → t < l.total → HasBit l.words t → AreGoodTotals l.layers.rows.now l.layers.region.now (t ∷ []) → ⊥
