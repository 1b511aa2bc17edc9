use Rattle.cube_draft.proofs.Scanned.{IsScanned}
use Rattle.cube_draft.proofs.scanning.scan.Given as goal

abbrev pub invariant-loop-i : goal.invariant-loop-i
invariant-loop-i l = IsScanned l.cube.literals l.meeting l.i
