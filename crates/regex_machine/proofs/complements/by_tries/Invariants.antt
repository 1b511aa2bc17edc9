use Rattle.std.proofs.Common.{◌<◌, ◌-◌}
use Rattle.regex_machine.proofs.complements.by_tries.Given as goal

abbrev pub invariant-loop-limit : goal.invariant-loop-limit
invariant-loop-limit l = 0 < l.limit

abbrev pub decreases-loop-limit : goal.decreases-loop-limit
decreases-loop-limit l = l.most - l.limit
