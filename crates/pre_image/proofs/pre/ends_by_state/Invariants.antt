use Rattle.std.proofs.Common.{◌≡◌, length, take}
use Rattle.machine_core.specs.Places.{IsIndex}
use Rattle.pre_image.specs.Indexed.{end_state}
use Rattle.pre_image.proofs.pre.ends_by_state.Given as goal

abbrev pub invariant-loop-place : goal.invariant-loop-place
invariant-loop-place l = record {
  rows : length l.rows ≡ l.through.states;
  found : IsIndex end_state (take l.place l.end-items) l.rows;
}
