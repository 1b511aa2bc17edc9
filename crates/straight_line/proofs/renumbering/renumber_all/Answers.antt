use Rattle.std.proofs.Common.{◌∙◌, ap, sym, Some}
use Rattle.std.proofs.lemmas.Option.{slice_get-get_or}
use Rattle.straight_line.proofs.Chosen.{renumbered_more}
use Rattle.straight_line.proofs.renumbering.renumber_all.Goals as goal

pub loop-row-preserved : goal.loop-row-preserved
loop-row-preserved c = renumbered_more c.args.base c.args.integers.now c.args.registers.now c.args.rows.now c.loop-row.renumbered c.push.new.self c.loop-row.row-index c.row-item.result c.in_ok-next.next c.loop-row-test.true (slice_get-get_or c.args.rows.now c.loop-row.row-index c.row-item.result c.loop-row-test.true ∙ ap Some (sym c.row-item.is)) c.in_ok-next.ensures c.in_ok-push.ensures.ok c.loop-row.invariant
