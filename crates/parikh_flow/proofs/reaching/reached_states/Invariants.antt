use Rattle.std.proofs.Common.{◌-◌, []}
use Rattle.farkas_check.specs.Cuts.{values_of}
use Rattle.parikh_flow.specs.Reaching.{IsReaching}
use Rattle.parikh_flow.proofs.reaching.reached_states.Given as goal

abbrev pub invariant-loop-at : goal.invariant-loop-at
invariant-loop-at l = IsReaching (values_of l.point) l.net l.found l.seen l.at []

abbrev pub decreases-loop-at : goal.decreases-loop-at
decreases-loop-at l = l.net.states - l.at
