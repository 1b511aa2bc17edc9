use Rattle.std.proofs.Common.{◌≡◌, length}
use Rattle.replace_machines.specs.Rows.{AreMatchRows, IsBorderOf}
use Rattle.replace_machines.proofs.rows.failure_automaton.Given as goal

abbrev pub invariant-loop-place : goal.invariant-loop-place
invariant-loop-place l = (length l.rows ≡ l._place) × AreMatchRows l.pattern l.rows × IsBorderOf l.pattern l._place l.border
