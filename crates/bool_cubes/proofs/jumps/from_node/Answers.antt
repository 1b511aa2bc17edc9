use Rattle.std.proofs.Common.{arith, get_or}
use Rattle.bool_cubes.specs.declared.jumps.Jump.{Jump}
use Rattle.bool_cubes.specs.Jumps.{IsJump}
use Rattle.bool_cubes.proofs.Jumped.{jump_trans}
use Rattle.bool_cubes.proofs.jumps.from_node.Goals as goal

abbrev none : Jump
none = record { to = 0; cubes = 0; steps = 0 }

pub returns-then-cubes-le-MOST_CUBES : goal.returns-then-cubes-le-MOST_CUBES
returns-then-cubes-le-MOST_CUBES c =
    let b = c.step-step.ensures.back in
    let next : IsJump c.args.nodes.now c.step-step.result.to (get_or c.args.jumps.now c.step-step.result.to none) = c.requires.jumps.each c.step-step.result.to none (omega (arith, c.requires.before)) in
    let d = next.back in
    let far = c.requires.jumps.each (get_or c.args.jumps.now c.step-step.result.to none).to none (omega (arith, c.requires.before)) in
    jump_trans c.args.nodes.now c.args.at c.step-step.result (get_or c.args.jumps.now c.step-step.result.to none) (get_or c.args.jumps.now (get_or c.args.jumps.now c.step-step.result.to none).to none) c.step-step.ensures next far (omega arith)
