use Rattle.std.proofs.Common.{◌+◌, ◌++◌, length, ap, sym, arith}
use Rattle.part_machines.specs.Chains.{chain_rows}
use Rattle.part_machines.proofs.ChainLemmas.{chained-more, range-at}
use Rattle.part_machines.proofs.chains.chain_rows.Goals as goal

pub overflow_cast-count : goal.overflow_cast-count
overflow_cast-count c = omega (arith, c.requires.few)

pub overflow_add-lost : goal.overflow_add-lost
overflow_add-lost c = omega (arith, c.requires.few)

pub loop-at-init : goal.loop-at-init
loop-at-init c = ap (λ l. l ++ chain_rows c.args.longer (length c.args.ranges.now + 1) 0 c.args.ranges.now) (sym c.new-rows.ensures)

pub bounds-ranges-at : goal.bounds-ranges-at
bounds-ranges-at c = c.loop-at-test.true

pub chain_row-requires-clause-next : goal.chain_row-requires-clause-next
chain_row-requires-clause-next c = omega (arith, c.loop-at-test.true)

pub chain_row-requires-clause-range : goal.chain_row-requires-clause-range
chain_row-requires-clause-range c = (range-at c.args.ranges.now c.loop-at.at (0, 0) c.loop-at-test.true c.requires.ranges).1

pub loop-at-preserved : goal.loop-at-preserved
loop-at-preserved c =
    chained-more c.args.longer (length c.args.ranges.now + 1) c.loop-at.at c.args.ranges.now c.loop-at.rows c.push.new.self _ c.in_ok-chain_row.field-0 c.loop-at-test.true
    c.in_ok-chain_row.ensures c.loop-at.invariant c.in_ok-push.ensures.ok
