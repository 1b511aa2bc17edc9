use Rattle.std.proofs.Common.{◌≡◌, map, take}
use Rattle.part_machines.specs.Patterns.{spread_row}
use Rattle.part_machines.proofs.pattern.pattern_rows.Given as goal

abbrev pub invariant-loop-row : goal.invariant-loop-row
invariant-loop-row l = l.rows ≡ map spread_row (take l.row-index l.row-items)
