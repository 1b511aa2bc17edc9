use Rattle.std.proofs.Common.{subst, add-one, arith}
use Rattle.flat_cubes.specs.declared.definition.By.TheVariants.{Concat}
use Rattle.backward.specs.Definitions.{definition}
use Rattle.backward.specs.States.{IsState}
use Rattle.backward.proofs.StepLemmas.{reads-other}
use Rattle.cube_search.proofs.SearchLemmas.{concat-here, some-pieces}
use Rattle.cube_search.proofs.stepping.pieces_at.Goals as goal

pub returns-in-Concat-clause-step : goal.returns-in-Concat-clause-step
returns-in-Concat-clause-step c =
    let s = c.requires.search in
    let flat = c.args.search.now.flat.now in
    let at = c.args.at in
    let d = c.definition_at-definition.result.now in
    let pieces = c.as_slice.result.now in
    let here = concat-here flat.definitions at d c.in-Concat.pieces pieces c.definition_at-definition.ensures c.in-Concat.is c.as_slice.ensures in
    let state = subst (λ n. IsState flat n c.args.state.now) (add-one at) c.requires.state in
    let machine = c.next_can_be_carried.ensures.machine flat at (definition d.variable (Concat pieces)) s.straight state here in
    record {
      variable = d.variable;
      machine = machine.0;
      defined = here;
      has = machine.1;
      fewer = some-pieces flat at d.variable pieces s.straight here;
      states = λ i k. absurd (omega (arith, k.1));
      can = λ all cuts. c.next_can_be_carried.ensures.concat flat at d.variable pieces all machine.0 s.straight s.little state here machine.1 cuts;
    }

pub returns-in_default : goal.returns-in_default
returns-in_default c =
    let s = c.requires.search in
    let flat = c.args.search.now.flat.now in
    let at = c.args.at in
    let d = c.definition_at-definition.result.now in
    let one = reads-other d.by c.in_default.not-Concat in
    let state = subst (λ n. IsState flat n c.args.state.now) (add-one at) c.requires.state in
    record {
      step = c.next_can_be_carried.ensures.through flat at d.variable one.0 d.by s.straight s.formed s.little state c.definition_at-definition.ensures one.1;
      exact = c.cuts_are_exact.ensures;
    }
