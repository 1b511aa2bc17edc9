use Rattle.std.proofs.Common.{◌∙◌, ap, map, subst, sym, length}
use Rattle.sv_terms.specs.CutOff.{cut_off}
use Rattle.cube_bounds.specs.Bounds.{carried_all, own_bound}
use Rattle.flat_cubes.specs.Straight.{HaveVariablesBelow}
use Rattle.cube_bounds.proofs.Owned.{own_within}
use Rattle.cube_bounds.proofs.counting.all_states.Goals as goal

pub returns : goal.returns
returns c =
    let w : HaveVariablesBelow (length (map own_bound c.args.flat.now.variables)) c.as_slice-2.result.now = subst (HaveVariablesBelow (length (map own_bound c.args.flat.now.variables))) (sym c.as_slice-2.ensures) (own_within c.args.flat.now.variables c.args.flat.now.definitions c.requires.order) in
    c.carry_all.ensures (map own_bound c.args.flat.now.variables) (c.in_ok-numbers.ensures ∙ ap (λ vs. map cut_off (map own_bound vs)) c.as_slice.ensures) w ∙ ap (λ ds. map cut_off (carried_all ds (map own_bound c.args.flat.now.variables))) c.as_slice-2.ensures
