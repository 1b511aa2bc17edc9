use Rattle.std.proofs.Common.{◌∙◌}
use Rattle.cube_bounds.proofs.Rounded.{all_open}
use Rattle.cube_bounds.proofs.bounding.open_spans.Goals as goal

pub returns : goal.returns
returns c = c.from_vec.ensures ∙ c.in_ok-vec.ensures.items_if_clones_equal (λ y h. h) ∙ all_open c.args.count 0
