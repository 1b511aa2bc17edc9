use Rattle.std.proofs.Common.{subst}
use Rattle.sv_list.specs.Lists.{IfOk-both}
use Rattle.flat_cubes.specs.Satisfying.{ComesBy}
use Rattle.flat_cubes.specs.declared.definition.Definition.{Definition}
use Rattle.backward.specs.Back.{AreBack}
use Rattle.backward.specs.Runs.{run_words}
use Rattle.backward.proofs.StepLemmas.{one-definition}
use Rattle.backward.proofs.stepping.lift_step.Goals as goal

pub lift_by-requires-clause-made : goal.lift_by-requires-clause-made
lift_by-requires-clause-made c = c.requires.made c.definition_at-definition.result.now c.definition_at-definition.ensures

pub returns : goal.returns
returns c = IfOk-both c.lift_by.result _ _ _ c.lift_by.ensures.back c.lift_by.ensures.defined (λ rs back defined d at.
    subst (λ (x : Definition). AreBack c.args.before.now.machines x.variable c.args.runs rs × ComesBy (run_words rs) (run_words rs x.variable) x.by)
    (one-definition c.args.flat.now.definitions c.args.at c.definition_at-definition.result.now d c.definition_at-definition.ensures at) (back, defined))
