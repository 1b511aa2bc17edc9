use Rattle.regex_machine.specs.Antichains.{AddsPlaces, ArePlaces}
use Rattle.regex_machine.proofs.emptiness.add_by_size.Given as goal

abbrev pub invariant-loop-number : goal.invariant-loop-number
invariant-loop-number l = record {
  next : (goal.iterator-loop-number).can_next l.number-iterator;
  finite : (goal.iterator-loop-number).is_finite l.number-iterator;
  more : AddsPlaces l.fn.places l.places;
  states : ArePlaces l.sides l.places;
}
