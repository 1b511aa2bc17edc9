use Rattle.std.proofs.Common.{◌≡◌, map, take}
use Rattle.box_search.proofs.places.greatest_totals.Given as goal

abbrev pub invariant-loop-side : goal.invariant-loop-side
invariant-loop-side l = l.uppers ≡ map (λ s. s.1) (take l.side-index l.sides)
