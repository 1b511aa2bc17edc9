use Rattle.regex_machine.specs.Woven.{ArePlaced}
use Rattle.regex_machine.proofs.written.place_states.Given as goal

abbrev pub invariant-loop-at : goal.invariant-loop-at
invariant-loop-at l = ArePlaced l.part l.at l.rest l.initial.states l.states
