use Rattle.std.proofs.Common.{Err, ap, subst, ◌∙◌}
use Rattle.bool_cubes.specs.Nodes.{tree_at}
use Rattle.bool_cubes.specs.Past.{tree_steps}
use Rattle.bool_cubes.specs.declared.cubes.CubeRoot.{CubeRoot}
use Rattle.literal_forms.specs.Past.{ArePlain, IsPlainExactly}
use Rattle.bool_cubes.proofs.Gathered.{planned_tree, refused_by, root-planned}
use Rattle.bool_cubes.proofs.cubes.root_of.Goals as goal

pub returns-in-Err-clause-refused : goal.returns-in-Err-clause-refused
returns-in-Err-clause-refused c =
    let tree = ap (λ ns. tree_at ns c.in_ok-sides.sides.holding) c.as_slice.ensures ∙ planned_tree c.args.terms.now c.new-plan.result.nodes c.all_sides.new.plan.nodes c.in_ok-sides.sides c.in_ok-sides.ensures in
    refused_by CubeRoot c.args.terms.now c.in-Err.fault c.cube_fault.result c.cube_fault.ensures (subst (λ t. IsPlainExactly {X = Unit {0}} (tree_steps t) (Err c.in-Err.fault)) tree c.in-Err.ensures)

pub returns-clause-root : goal.returns-clause-root
returns-clause-root c =
    root-planned c.args.terms.now c.new-plan.result.nodes c.all_sides.new.plan.nodes c.in_ok-sides.sides c.count_at-cubes.result c.in_ok-sides.ensures c.count_at-cubes.ensures

pub returns-clause-refused : goal.returns-clause-refused
returns-clause-refused c =
    let tree = ap (λ ns. tree_at ns c.in_ok-sides.sides.holding) c.as_slice.ensures ∙ planned_tree c.args.terms.now c.new-plan.result.nodes c.all_sides.new.plan.nodes c.in_ok-sides.sides c.in_ok-sides.ensures in
    subst (λ t. ArePlain (tree_steps t)) tree c.in-Ok.ensures
