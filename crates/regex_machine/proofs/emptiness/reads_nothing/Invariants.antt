use Rattle.std.proofs.Common.{◌-◌}
use Rattle.machine_meet.specs.Products.{meet_width}
use Rattle.regex_machine.specs.Antichains.{IsExplored}
use Rattle.regex_machine.specs.declared.sides.MeetSide.{MeetSide}
use Rattle.regex_machine.proofs.emptiness.reads_nothing.Given as goal

abbrev pub invariant-loop-at : goal.invariant-loop-at
invariant-loop-at l = IsExplored l.meet.parts.now (meet_width (λ (d : MeetSide). 0) l.meet.parts.now) l.places l.at

abbrev pub decreases-loop-at : goal.decreases-loop-at
decreases-loop-at l = l.limit - l.at
