use Rattle.std.proofs.Common.{◌≡◌, ◌≤◌, ◌+◌, ◌-◌, drop, length}
use Rattle.regex_machine.specs.Onwards.{AreBegun, PrecedesRest, unmade}
use Rattle.regex_machine.proofs.written.text.Given as goal

abbrev pub invariant-loop-at : goal.invariant-loop-at
invariant-loop-at l = record {
  room : l.at ≤ length l.characters;
  front : AreBegun l.fn.states l.fn.rest → PrecedesRest (λ w. w ≡ drop l.at l.characters) (length l.fn.states + unmade l.fn.rest.state + (length l.characters - l.at)) l.fn.states l.fn.rest l.states l.rest l.front;
}

abbrev pub decreases-loop-at : goal.decreases-loop-at
decreases-loop-at l = l.at
