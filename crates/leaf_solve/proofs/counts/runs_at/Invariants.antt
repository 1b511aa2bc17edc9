use Rattle.std.proofs.Common.{◌≡◌, take}
use Rattle.farkas_check.specs.Cuts.{values_of}
use Rattle.parikh_flow.specs.Rows.{unknowns_after}
use Rattle.parikh_flow.specs.Solutions.{HaveFlowsAt}
use Rattle.leaf_solve.proofs.counts.runs_at.Given as goal

abbrev pub invariant-loop-machine : goal.invariant-loop-machine
invariant-loop-machine l = record {
  next : l.next ≡ unknowns_after l.base (take l.machine-index l.machines);
  flows : HaveFlowsAt (values_of l.point) l.base (take l.machine-index l.machines) l.runs;
}
