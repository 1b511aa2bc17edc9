use Rattle.std.proofs.Common.{get_or}
use Rattle.search_hits.specs.Boxes.{point_side}
use Rattle.box_layers.proofs.SideLoops.{whole, joined-all, joined-next, joined-none}
use Rattle.box_layers.proofs.layers.sides_at.Goals as goal

pub loop-total-init : goal.loop-total-init
loop-total-init c = joined-none c.args.integers.now c.in_ok-sides.sides c.in_ok-sides.ensures

pub returns : goal.returns
returns c = joined-all point_side c.args.totals.now c.loop-total.total-index c.args.integers.now c.loop-total.sides c.loop-total-test.false c.loop-total.invariant

pub loop-total-preserved : goal.loop-total-preserved
loop-total-preserved c =
    let i = c.loop-total.total-index in
    let is = whole (get_or c.args.totals.now i 0) (c.type_inv.totals i).fits in
    joined-next point_side c.args.totals.now i c.args.integers.now c.loop-total.sides c.push.new.self 0 c.loop-total-test.true c.loop-total.invariant (rw is at c.in_ok-push.ensures.ok)
