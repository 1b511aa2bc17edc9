use Rattle.std.proofs.Common.{◌≡◌, ◌+◌, ◌++◌, length, drop}
use Rattle.part_machines.specs.Chains.{chain_rows}
use Rattle.part_machines.proofs.chains.chain_rows.Given as goal

abbrev pub invariant-loop-at : goal.invariant-loop-at
invariant-loop-at l = chain_rows l.longer (length l.ranges + 1) 0 l.ranges ≡ l.rows ++ chain_rows l.longer (length l.ranges + 1) l.at (drop l.at l.ranges)
