use Rattle.std.proofs.Common.{◌≤◌, length, drop}
use Rattle.machine_meet.specs.Joins.{AreInhabited}
use Rattle.machine_meet.specs.Products.{AreProduct}
use Rattle.machine_meet.proofs.product.product.Given as goal

abbrev pub invariant-loop-i : goal.invariant-loop-i
invariant-loop-i g l = record {
  room : l.i ≤ length l.parts;
  exact : AreProduct g.P.Machine.steps_to l.width (drop l.i l.parts) (drop l.i l.at) l.all;
  inhabited : AreInhabited l.all;
}

abbrev pub decreases-loop-i : goal.decreases-loop-i
decreases-loop-i g l = l.i
