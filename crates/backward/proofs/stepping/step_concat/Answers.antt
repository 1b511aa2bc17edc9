use Rattle.std.proofs.Common.{◌≡◌, suc, ◌+◌, ap, sym, subst, ◌∙◌, arith}
use Rattle.std.proofs.lemmas.Result.{IfOk-weaker}
use Rattle.sv_list.specs.Lists.{IfOk-both}
use Rattle.flat_cubes.specs.declared.definition.By.TheVariants as by
use Rattle.backward.specs.Definitions.{definition}
use Rattle.backward.specs.States.{IsState}
use Rattle.backward.proofs.StepLemmas.{place-below, can-cut-with, cut-at, cut-conf, cut-made}
use Rattle.backward.proofs.StateLemmas.{concat-state}
use Rattle.backward.proofs.stepping.step_concat.Goals as goal

pub definition_at-definition-requires : goal.definition_at-definition-requires
definition_at-definition-requires c = place-below c.args.flat.now c.args.at (definition c.requires.variable (by.Concat c.requires.pieces)) c.requires.defined

pub carry_concat-requires : goal.carry_concat-requires
carry_concat-requires c =
    can-cut-with c.args.flat.now c.args.at c.definition_at-definition.result.now c.definition_at-definition.ensures c.as_slice.result.now c.requires (c.in-Concat.is ∙ ap by.Concat (sym c.as_slice.ensures))

pub returns-clause-conf : goal.returns-clause-conf
returns-clause-conf c =
    let flat = c.args.flat.now in
    let at = c.args.at in
    let d = c.definition_at-definition.result.now in
    let there = c.definition_at-definition.ensures in
    let ps = c.as_slice.result.now in
    let is = c.in-Concat.is ∙ ap by.Concat (sym c.as_slice.ensures) in
    let can = can-cut-with flat at d there ps c.requires is in
    IfOk-both c.carry_concat.result _ _ _ c.carry_concat.ensures.registers c.carry_concat.ensures.carried
    (λ new registers carried. cut-at flat at d there c.args.state.now new ps c.args.cuts.now is can.0 can.1 registers (carried can.0 can.1))

pub returns-clause-state : goal.returns-clause-state
returns-clause-state c =
    let flat = c.args.flat.now in
    let at = c.args.at in
    let d = c.definition_at-definition.result.now in
    let there = c.definition_at-definition.ensures in
    let s = c.args.state.now in
    let ps = c.as_slice.result.now in
    let is = c.in-Concat.is ∙ ap by.Concat (sym c.as_slice.ensures) in
    let can = can-cut-with flat at d there ps c.requires is in
    let next : at + 1 ≡ suc at = omega arith in
    IfOk-both c.carry_concat.result _ _ _ c.carry_concat.ensures.registers c.carry_concat.ensures.carried (λ new registers carries straight state.
    let carried = carries can.0 can.1 in
    concat-state flat straight at s (subst (λ n. IsState flat n s) next state) d there c.states_are_solved.ensures.solved c.growth_is_solved.ensures.solved ps c.args.cuts.now is can.0 can.1.machine
    new registers carried (cut-conf flat at d there s new ps c.args.cuts.now is can.0 can.1 registers carried))

pub returns-clause-made : goal.returns-clause-made
returns-clause-made c =
    let is = c.in-Concat.is ∙ ap by.Concat (sym c.as_slice.ensures) in
    IfOk-weaker c.carry_concat.result _ _ (λ new. cut-made c.args.flat.now c.args.at c.definition_at-definition.result.now c.definition_at-definition.ensures c.args.state.now new c.as_slice.result.now c.args.cuts.now is)
    c.carry_concat.ensures.made
