use Rattle.std.proofs.Common.{◌≤◌, length, drop}
use Rattle.machine_meet.specs.Products.{AreEndCosts}
use Rattle.machine_meet.proofs.sums.end_product.Given as goal

abbrev pub invariant-loop-i : goal.invariant-loop-i
invariant-loop-i g l = record {
  room : l.i ≤ length l.parts;
  exact : AreEndCosts g.P.Machine.ends_with l.width (drop l.i l.parts) (drop l.i l.at) l.all;
}

abbrev pub decreases-loop-i : goal.decreases-loop-i
decreases-loop-i g l = l.i
