use Rattle.std.proofs.Common.{ap, ◌∙◌, map, replicate}
use Rattle.sv_terms.specs.CutOff.{cut_off}
use Rattle.cube_bounds.specs.Growth.{grown}
use Rattle.cube_bounds.proofs.Grown.{all_ones, one_each}
use Rattle.cube_bounds.proofs.growing.all_growths.Goals as goal

pub returns : goal.returns
returns c =
    c.grow_all.ensures (map one_each c.args.flat.now.variables)
    (c.from_vec-numbers.ensures ∙ c.in_ok-vec.ensures.items_if_clones_equal (λ y h. h) ∙ ap (λ n. replicate n 1) c.len.ensures ∙ all_ones c.args.flat.now.variables)
    ∙ ap (λ ds. map cut_off (grown (map one_each c.args.flat.now.variables) ds)) c.as_slice.ensures
