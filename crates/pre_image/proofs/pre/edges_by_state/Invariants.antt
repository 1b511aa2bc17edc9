use Rattle.std.proofs.Common.{◌≡◌, length, take}
use Rattle.machine_core.specs.Places.{IsIndex}
use Rattle.pre_image.specs.Indexed.{edge_source}
use Rattle.pre_image.proofs.pre.edges_by_state.Given as goal

abbrev pub invariant-loop-place : goal.invariant-loop-place
invariant-loop-place l = record {
  rows : length l.rows ≡ l.through.states;
  found : IsIndex edge_source (take l.place l.edge-items) l.rows;
}
