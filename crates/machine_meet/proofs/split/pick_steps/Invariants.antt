use Rattle.std.proofs.Common.{◌≡◌, ℕ, List, length, slice_get, Some}
use Rattle.machine_meet.specs.Products.{meet_width}
use Rattle.machine_meet.specs.Splits.{IsSplitRow}
use Rattle.machine_meet.proofs.split.pick_steps.Given as goal

abbrev pub invariant-loop-i : goal.invariant-loop-i
invariant-loop-i g l = record {
  count : length l.rows ≡ l.i;
  rows : (at : ℕ) (row : List (List ℕ)) → slice_get l.rows at ≡ Some row → IsSplitRow g.P.Machine.steps_to (meet_width g.P.Machine.width l.meet.parts.now) l.meet.parts.now l.run at row;
}
