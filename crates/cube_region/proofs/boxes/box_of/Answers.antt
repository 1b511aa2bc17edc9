use Rattle.std.proofs.Common.{◌≡◌, ◌∙◌, ap, arith, false, map}
use Rattle.cube_bounds.specs.Sides.{integer_sides, register_sides}
use Rattle.cube_bounds.proofs.Few.{sides_long}
use Rattle.cube_region.specs.Bounding.{integer_bounds, register_bounds}
use Rattle.cube_region.proofs.BoxSides.{sides-front, sides-back}
use Rattle.cube_region.proofs.boxes.box_of.Goals as goal

pub split_at-requires : goal.split_at-requires
split_at-requires c = let l = sides_long c.args.flat.now c.args.box_sides.now c.requires in let e = c.len.ensures in omega arith

pub returns : goal.returns
returns c =
    let flat = c.args.flat.now in
    let r : c.in_ok-all_register_bounds.field-0 ≡ map register_bounds (register_sides c.args.flat.now)
    = c.in_ok-all_register_bounds.ensures ∙ ap (map register_bounds) (c.split_at.ensures.front ∙ sides-front flat c.args.box_sides.now c.len.result c.requires c.len.ensures) in
    let i : c.in_ok-all_integer_bounds.field-0 ≡ map integer_bounds (integer_sides c.args.flat.now)
    = c.in_ok-all_integer_bounds.ensures ∙ ap (map integer_bounds) (c.split_at.ensures.back ∙ sides-back flat c.args.box_sides.now c.len.result c.requires c.len.ensures) in
    λ j. record { empty = false; registers = r j; integers = i j }
