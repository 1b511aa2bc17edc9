use Rattle.std.proofs.Common.{◌≡◌, ◌+◌, drop, length}
use Rattle.cube_bounds.specs.Sides.{spans_in}
use Rattle.cube_bounds.proofs.bounding.all_spans.Given as goal

abbrev pub invariant-loop-i : goal.invariant-loop-i
invariant-loop-i l = l.spans ≡ spans_in (drop l.i l.rows) (length l.flat.integers + length l.flat.registers)
