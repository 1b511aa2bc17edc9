use Rattle.std.proofs.Common.{◌≤◌, ◌+◌, ◌-◌, length, drop}
use Rattle.sv_word.proofs.JoinLemmas.{IsJoining}
use Rattle.sv_word.proofs.ranges.Ranges.join.Given as goal

abbrev pub invariant-loop-i : goal.invariant-loop-i
invariant-loop-i l = record {
  left_room : l.i ≤ length l.left;
  right_room : l.j ≤ length l.right;
  joining : IsJoining l.left l.right l.pairs.items (drop l.i l.left) (drop l.j l.right);
}

abbrev pub decreases-loop-i : goal.decreases-loop-i
decreases-loop-i l = (length l.left - l.i) + (length l.right - l.j)
