use Rattle.std.proofs.Common.{rules, pos, FitsSigned, get_or, refl}
use Rattle.std.specs.Int.{w128}
use Rattle.std.proofs.lemmas.Int.{to_z-of_z}
use Rattle.search_hits.specs.Boxes.{IsSide}
use Rattle.box_layers.proofs.SideLoops.{not-below, holds-next, holds-all}
use Rattle.box_layers.proofs.layers.have_numbers.Goals as goal

pub loop-low-preserved : goal.loop-low-preserved
loop-low-preserved c =
    let fl : FitsSigned w128 (get_or c.args.sides.now c.loop-low.low-index (pos 0, pos 0)).0 = search rules in
    let fh : FitsSigned w128 (get_or c.args.sides.now c.loop-low.low-index (pos 0, pos 0)).1 = search rules in
    let some = rw (to_z-of_z w128 (get_or c.args.sides.now c.loop-low.low-index (pos 0, pos 0)).0 fl, to_z-of_z w128 (get_or c.args.sides.now c.loop-low.low-index (pos 0, pos 0)).1 fh) at c.if-low-high.false in
    holds-next IsSide c.args.sides.now c.loop-low.low-index (pos 0, pos 0) c.loop-low-test.true (not-below (get_or c.args.sides.now c.loop-low.low-index (pos 0, pos 0)).1 (get_or c.args.sides.now c.loop-low.low-index (pos 0, pos 0)).0 some) c.loop-low.invariant

pub returns : goal.returns
returns c = (λ h. holds-all IsSide c.args.sides.now c.loop-low.low-index c.loop-low-test.false c.loop-low.invariant, λ h. refl)
