use Rattle.machine_meet.proofs.PlaceLemmas.{column-start, column-next, column-all}
use Rattle.machine_meet.proofs.column.column.Goals as goal

pub loop-row-init : goal.loop-row-init
loop-row-init g c = rw c.new-column.ensures (column-start c.args.place)

pub loop-row-preserved : goal.loop-row-preserved
loop-row-preserved g c = column-next c.args.place c.args.rows.now c.loop-row.column c.push.new.self c.loop-row.row-index c.row-item.result c.as_slice.result.now c.index-as_slice-place.result c.in_ok-copy.field-0
    c.loop-row-test.true c.row-item.is c.loop-row.invariant (c.requires c.loop-row.row-index c.row-item.result c.loop-row-test.true) c.as_slice.ensures c.index-as_slice-place.is c.in_ok-copy.ensures c.in_ok-push.ensures.ok

pub returns : goal.returns
returns g c = column-all c.args.place c.args.rows.now c.loop-row.column c.loop-row.row-index c.loop-row-test.false c.loop-row.invariant
