use Rattle.bool_cubes.proofs.plan.Plan.plan_literal.Goals as goal

pub returns : goal.returns
returns c = rw c.in_ok-atom.ensures at c.one.ensures
