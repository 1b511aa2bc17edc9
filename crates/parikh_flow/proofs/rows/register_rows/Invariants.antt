use Rattle.std.proofs.Common.{ℕ, ◌+◌, ◌<◌, All, map}
use Rattle.std.specs.List.{range_with_len}
use Rattle.parikh_flow.specs.Building.{CostsFit}
use Rattle.parikh_flow.specs.Rows.{register_row, AreSameRows}
use Rattle.parikh_flow.proofs.rows.register_rows.Given as goal

abbrev pub invariant-loop-register : goal.invariant-loop-register
invariant-loop-register l = record {
  rows : AreSameRows l.rows (map (register_row l.integers (l.integers + l.registers) l.machines) (range_with_len 0 l.register));
  fit : (k : ℕ) → k < l.register → All (CostsFit k) l.machines;
}
