use Rattle.std.proofs.Common.{take}
use Rattle.part_machines.specs.Sides.{AreSides}
use Rattle.part_machines.proofs.own.sides_of.Given as goal

abbrev pub invariant-loop-part : goal.invariant-loop-part
invariant-loop-part l = AreSides (take l.part-index l.parts) l.within l.outside
