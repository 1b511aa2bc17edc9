use Rattle.std.proofs.Common.{◌≡◌, ◌++◌, ◌-◌, subst, length, take, drop, IsTrue}
use Rattle.std.specs.List.{AllByRecursion}
use Rattle.sv_linear.specs.Rows.{RowFits}
use Rattle.cube_bounds.specs.Sides.{amount_among, amount_of, integer_sides, register_sides}
use Rattle.cube_bounds.proofs.Few.{sides_parted}
use Rattle.cube_bounds.proofs.smallness.rows_fit.Goals as goal

pub returns : goal.returns
returns c =
    let k = c.len-count.result in
    let box = c.args.box_sides.now in
    let flat = c.args.flat.now in
    let p : take (length c.args.box_sides.now - c.len-count.result) (drop c.len-count.result c.args.box_sides.now) ++ take c.len-count.result c.args.box_sides.now ≡ integer_sides c.args.flat.now ++ register_sides c.args.flat.now
    = sides_parted c.args.flat.now c.args.box_sides.now c.len-count.result c.requires.sides c.len-count.ensures in
    subst (λ rs. (IsTrue c.all_fit.result → AllByRecursion (RowFits (amount_of flat)) rs) × (AllByRecursion (RowFits (amount_of flat)) rs → IsTrue c.all_fit.result)) c.as_slice.ensures
    (subst (λ ss. (IsTrue c.all_fit.result → AllByRecursion (RowFits (amount_among ss)) c.as_slice.result.now) × (AllByRecursion (RowFits (amount_among ss)) c.as_slice.result.now → IsTrue c.all_fit.result)) p c.all_fit.ensures)
