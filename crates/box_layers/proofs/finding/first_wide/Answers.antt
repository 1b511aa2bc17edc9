use Rattle.std.proofs.Common.{rules, pos, FitsSigned, get_or}
use Rattle.std.specs.Int.{w128}
use Rattle.std.proofs.lemmas.Int.{to_z-of_z}
use Rattle.std.proofs.lemmas.Option.{slice_get-get_or}
use Rattle.search_hits.specs.Boxes.{HoldsOne}
use Rattle.box_layers.proofs.SideLoops.{below, not-below, same-ends, holds-next, holds-all}
use Rattle.box_layers.proofs.finding.first_wide.Goals as goal

pub returns-then-sides-at : goal.returns-then-sides-at
returns-then-sides-at c =
    let fl : FitsSigned w128 (get_or c.args.sides.now c.loop-at.at (pos 0, pos 0)).0 = search rules in
    let fh : FitsSigned w128 (get_or c.args.sides.now c.loop-at.at (pos 0, pos 0)).1 = search rules in
    let wide = rw (to_z-of_z w128 (get_or c.args.sides.now c.loop-at.at (pos 0, pos 0)).0 fl, to_z-of_z w128 (get_or c.args.sides.now c.loop-at.at (pos 0, pos 0)).1 fh) at c.if-sides-at.true in
    (get_or c.args.sides.now c.loop-at.at (pos 0, pos 0), slice_get-get_or c.args.sides.now c.loop-at.at (pos 0, pos 0) c.loop-at-test.true, below (get_or c.args.sides.now c.loop-at.at (pos 0, pos 0)).0 (get_or c.args.sides.now c.loop-at.at (pos 0, pos 0)).1 wide)

pub loop-at-preserved : goal.loop-at-preserved
loop-at-preserved c =
    let fl : FitsSigned w128 (get_or c.args.sides.now c.loop-at.at (pos 0, pos 0)).0 = search rules in
    let fh : FitsSigned w128 (get_or c.args.sides.now c.loop-at.at (pos 0, pos 0)).1 = search rules in
    let narrow = rw (to_z-of_z w128 (get_or c.args.sides.now c.loop-at.at (pos 0, pos 0)).0 fl, to_z-of_z w128 (get_or c.args.sides.now c.loop-at.at (pos 0, pos 0)).1 fh) at c.if-sides-at.false in
    holds-next HoldsOne c.args.sides.now c.loop-at.at (pos 0, pos 0) c.loop-at-test.true
    (same-ends (get_or c.args.sides.now c.loop-at.at (pos 0, pos 0)).0 (get_or c.args.sides.now c.loop-at.at (pos 0, pos 0)).1 (c.requires c.loop-at.at (pos 0, pos 0) c.loop-at-test.true) (not-below (get_or c.args.sides.now c.loop-at.at (pos 0, pos 0)).0 (get_or c.args.sides.now c.loop-at.at (pos 0, pos 0)).1 narrow)) c.loop-at.invariant

pub returns : goal.returns
returns c = holds-all HoldsOne c.args.sides.now c.loop-at.at c.loop-at-test.false c.loop-at.invariant
