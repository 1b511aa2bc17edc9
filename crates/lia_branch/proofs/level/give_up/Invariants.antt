use Rattle.std.proofs.Common.{◌≡◌, length}
use Rattle.farkas_check.specs.declared.system.System.{System}
use Rattle.lia_branch.specs.Forks.{IsStopping}
use Rattle.lia_branch.proofs.level.give_up.Given as goal

abbrev pub invariant-up : goal.invariant-up
invariant-up l = record {
  stopping : (s : System) → IsStopping s l.initial.levels l.initial.tree l.initial.stop → IsStopping s l.levels l.tree l.initial.stop;
  same : l.stop ≡ l.initial.stop;
}

abbrev pub decreases-up : goal.decreases-up
decreases-up l = length l.levels
