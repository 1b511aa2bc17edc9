use Rattle.std.proofs.Common.{length}
use Rattle.subset_machine.proofs.groups.+union.Given as goal

abbrev pub decreases-union : goal.decreases-union
decreases-union l = length l.marks.now
