use Rattle.std.proofs.Common.{◌≡◌, ◌++◌, drop}
use Rattle.part_machines.specs.Patterns.{spread}
use Rattle.part_machines.proofs.pattern.spread_row.Given as goal

abbrev pub invariant-loop-pair : goal.invariant-loop-pair
invariant-loop-pair l = spread l.row ≡ l.legs ++ spread (drop l.pair-index l.row)
