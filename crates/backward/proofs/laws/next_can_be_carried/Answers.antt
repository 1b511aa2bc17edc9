use Rattle.std.proofs.Common.{refl}
use Rattle.flat_cubes.specs.declared.definition.By.TheVariants.{Concat}
use Rattle.backward.specs.Definitions.{definition}
use Rattle.backward.proofs.StateLemmas.{target-has, can-cut, can-pass}
use Rattle.backward.proofs.laws.next_can_be_carried.Goals as goal

pub returns-clause-machine : goal.returns-clause-machine
returns-clause-machine c flat left d straight state there = target-has flat straight left c.args.state.now state d there

pub returns-clause-concat : goal.returns-clause-concat
returns-clause-concat c flat left x pieces cuts target straight little state there has borders =
    can-cut flat straight left c.args.state.now state (definition x (Concat pieces)) there c.growth_is_solved.ensures.solved c.growth_is_solved.ensures.bounded little pieces cuts refl target has borders

pub returns-clause-through : goal.returns-clause-through
returns-clause-through c flat left x v b straight formed little state there reading =
    can-pass flat straight left c.args.state.now state (definition x b) there c.growth_goes_along.ensures.along c.growth_is_solved.ensures.bounded little formed v reading
