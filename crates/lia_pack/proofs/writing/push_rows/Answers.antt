use Rattle.lia_pack.specs.Tables.{row_numbers}
use Rattle.lia_pack.proofs.Written.{written_more}
use Rattle.lia_pack.proofs.writing.push_rows.Goals as goal

pub loop-row-preserved : goal.loop-row-preserved
loop-row-preserved c =
    written_more row_numbers c.args.rows.now c.loop-row.row-index c.row-item.result c.args.bytes.now c.loop-row.bytes c.push_row.new.bytes c.loop-row-test.true c.row-item.is c.loop-row.invariant c.in_ok-push_row.ensures
