use Rattle.std.proofs.Common.{take}
use Rattle.subset_machine.specs.Groups.{AreGroups}
use Rattle.subset_machine.proofs.groups.group.Given as goal

abbrev pub invariant-loop-mark : goal.invariant-loop-mark
invariant-loop-mark l = AreGroups (take l.mark-index l.marks) l.hits l.dead l.groups
