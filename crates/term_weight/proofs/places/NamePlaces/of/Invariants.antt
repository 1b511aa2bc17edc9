use Rattle.std.proofs.Common.{◌≡◌, ◌≤◌, length, drop}
use Rattle.term_weight.specs.Places.{shown}
use Rattle.smt_names.specs.Signature.{Name}
use Rattle.term_weight.specs.Weights.{place_of}
use Rattle.term_weight.proofs.Placing.{shifted}
use Rattle.term_weight.proofs.places.NamePlaces.of.Given as goal

abbrev pub invariant-loop-i : goal.invariant-loop-i
invariant-loop-i l = (l.i ≤ length l.parameters) × ((n : Name) → shown n l.places ≡ shifted l.i (place_of n (drop l.i l.parameters)))

abbrev pub decreases-loop-i : goal.decreases-loop-i
decreases-loop-i l = l.i
