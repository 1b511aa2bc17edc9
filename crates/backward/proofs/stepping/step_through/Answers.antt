use Rattle.std.proofs.Common.{◌≡◌, suc, ◌+◌, subst, arith}
use Rattle.std.proofs.lemmas.Result.{IfOk-weaker}
use Rattle.sv_list.specs.Lists.{IfOk-both}
use Rattle.cube_bounds.specs.NumberLaws.{slope_of, base_of}
use Rattle.backward.specs.Definitions.{definition}
use Rattle.backward.specs.States.{IsState}
use Rattle.backward.proofs.StepLemmas.{place-below, reads-there, can-pass-with, can-pass-through, passed-at, passed-conf, passed-made}
use Rattle.backward.proofs.StateLemmas.{through-state}
use Rattle.backward.proofs.stepping.step_through.Goals as goal

pub definition_at-definition-requires : goal.definition_at-definition-requires
definition_at-definition-requires c = place-below c.args.flat.now c.args.at (definition c.requires.variable c.requires.how) c.requires.defined

pub read_by-read-requires : goal.read_by-read-requires
read_by-read-requires c = reads-there c.args.flat.now c.args.at c.definition_at-definition.result.now c.definition_at-definition.ensures c.requires

pub transducer_for-requires-clause-formed : goal.transducer_for-requires-clause-formed
transducer_for-requires-clause-formed c =
    let can = can-pass-with c.args.flat.now c.args.at c.definition_at-definition.result.now c.definition_at-definition.ensures c.requires c.read_by-read.result c.read_by-read.ensures in
    can.2.formed

pub carry_through-requires : goal.carry_through-requires
carry_through-requires c =
    let can = can-pass-with c.args.flat.now c.args.at c.definition_at-definition.result.now c.definition_at-definition.ensures c.requires c.read_by-read.result c.read_by-read.ensures in
    (can.0, can.1, can-pass-through can.2 c.in_ok-through.ensures)

pub returns-clause-conf : goal.returns-clause-conf
returns-clause-conf c =
    let flat = c.args.flat.now in
    let at = c.args.at in
    let d = c.definition_at-definition.result.now in
    let there = c.definition_at-definition.ensures in
    let v = c.read_by-read.result in
    let reading = c.read_by-read.ensures in
    let can = can-pass-with flat at d there c.requires v reading in
    let t = c.in_ok-through.through in
    let f = c.in_ok-through.ensures in
    let pass = can-pass-through can.2 f in
    IfOk-both c.carry_through.result _ _ _ c.carry_through.ensures.registers c.carry_through.ensures.carried (λ new registers carried.
    passed-at flat at d there c.args.state.now new v reading t f can.0 can.1 pass registers (carried can.0 can.1 (slope_of d.by) (base_of d.by) pass f.writes))

pub returns-clause-state : goal.returns-clause-state
returns-clause-state c =
    let flat = c.args.flat.now in
    let at = c.args.at in
    let d = c.definition_at-definition.result.now in
    let there = c.definition_at-definition.ensures in
    let s = c.args.state.now in
    let v = c.read_by-read.result in
    let reading = c.read_by-read.ensures in
    let can = can-pass-with flat at d there c.requires v reading in
    let t = c.in_ok-through.through in
    let f = c.in_ok-through.ensures in
    let pass = can-pass-through can.2 f in
    let next : at + 1 ≡ suc at = omega arith in
    IfOk-both c.carry_through.result _ _ _ c.carry_through.ensures.registers c.carry_through.ensures.carried (λ new registers carries straight state.
    let carried = carries can.0 can.1 (slope_of d.by) (base_of d.by) pass f.writes in
    through-state flat straight at s (subst (λ n. IsState flat n s) next state) d there c.states_are_solved.ensures.solved c.growth_goes_along.ensures.along v reading can.0 can.2.machine
    new registers t f.states carried (passed-conf flat at d there s new v reading t f can.0 can.1 pass registers carried))

pub returns-clause-made : goal.returns-clause-made
returns-clause-made c =
    IfOk-weaker c.carry_through.result _ _
    (λ new. passed-made c.args.flat.now c.args.at c.definition_at-definition.result.now c.definition_at-definition.ensures c.args.state.now new c.read_by-read.result c.read_by-read.ensures c.in_ok-through.through c.in_ok-through.ensures)
    c.carry_through.ensures.made
