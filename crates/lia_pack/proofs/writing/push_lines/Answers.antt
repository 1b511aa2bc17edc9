use Rattle.lia_pack.specs.Tables.{standing_numbers}
use Rattle.lia_pack.proofs.Written.{written_more}
use Rattle.lia_pack.proofs.writing.push_lines.Goals as goal

pub loop-standing-preserved : goal.loop-standing-preserved
loop-standing-preserved c =
    written_more standing_numbers c.args.lines.now c.loop-standing.standing-index c.standing-item.result c.args.bytes.now c.loop-standing.bytes c.push_standing.new.bytes c.loop-standing-test.true c.standing-item.is c.loop-standing.invariant c.in_ok-push_standing.ensures
