use Rattle.std.proofs.Common.{◌∙◌, ◌++◌, map, ap}
use Rattle.search_hits.specs.Regions.{whole_side}
use Rattle.box_layers.proofs.SideLoops.{joined-all, joined-none}
use Rattle.box_layers.proofs.layers.all_sides.Goals as goal

pub loop-low-init : goal.loop-low-init
loop-low-init c = joined-none c.args.region.now.integers c.in_ok-sides.sides (c.in_ok-sides.ensures ∙ c.as_slice.ensures)

pub returns : goal.returns
returns c =
    joined-all whole_side c.as_slice-low-items.result.now c.loop-low.low-index c.args.region.now.integers c.loop-low.sides c.loop-low-test.false c.loop-low.invariant
    ∙ ap (λ l. c.args.region.now.integers ++ map whole_side l) c.as_slice-low-items.ensures
