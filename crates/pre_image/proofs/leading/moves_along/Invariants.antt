use Rattle.std.proofs.Common.{take}
use Rattle.pre_image.specs.Leading.{AreLeads, spelled}
use Rattle.pre_image.proofs.leading.moves_along.Given as goal

abbrev pub invariant-loop-next : goal.invariant-loop-next
invariant-loop-next l = AreLeads l.target l.from l.low l.high (spelled (take l.next-index l.nexts)) l.leads
