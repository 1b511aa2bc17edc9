use Rattle.std.proofs.Common.{[], sym, subst}
use Rattle.std.proofs.lemmas.Result.{IfOk-weaker}
use Rattle.backward.specs.Families.{HasMachine}
use Rattle.flat_cubes.specs.declared.definition.Definition.{Definition}
use Rattle.backward.proofs.StepLemmas.{one-definition}
use Rattle.cube_search.proofs.SearchLemmas.{cutting-machine}
use Rattle.cube_search.proofs.WayLemmas.{cutting-pieces}
use Rattle.cube_search.proofs.stepping.live_at.Goals as goal

pub live_cuts-requires-clause-machine : goal.live_cuts-requires-clause-machine
live_cuts-requires-clause-machine c =
    cutting-machine c.args.flat.now c.args.at c.args.pieces.now c.args.state.now.machines [] c.requires.cutting c.definition_at-definition.result.now c.definition_at-definition.ensures

pub live_cuts-requires-clause-pieces : goal.live_cuts-requires-clause-pieces
live_cuts-requires-clause-pieces c = cutting-pieces c.args.flat.now c.args.at c.args.pieces.now c.args.state.now.machines [] c.requires.cutting

pub returns : goal.returns
returns c =
    let flat = c.args.flat.now in
    let ms = c.args.state.now.machines in
    let d = c.definition_at-definition.result.now in
    IfOk-weaker c.live_cuts.result _ _ (λ live lives e m is there.
    lives m (subst (λ (x : Definition). HasMachine ms x.variable m) (sym (one-definition flat.definitions c.args.at d e c.definition_at-definition.ensures is)) there)) c.live_cuts.ensures
