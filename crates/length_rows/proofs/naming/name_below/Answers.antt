use Rattle.std.proofs.Common.{arith}
use Rattle.length_rows.proofs.RowLemmas.{names-taken}
use Rattle.length_rows.proofs.naming.name_below.Goals as goal

pub returns : goal.returns
returns c = λ t. names-taken c.args.unknowns c.loop-row.row-index c.args.rows.now c.loop-row.invariant (omega arith)
