use Rattle.std.proofs.Common.{arith}
use Rattle.machine_meet.proofs.ProductLemmas.{states-length, states-at}
use Rattle.machine_meet.proofs.OptionLemmas.{options-start, options-next, options-all, costs-exact}
use Rattle.machine_meet.proofs.options.step_options.Goals as goal

pub loop-i-init : goal.loop-i-init
loop-i-init g c = rw c.new-options.ensures (options-start g.P.Machine.steps_to c.args.from.now c.args.c c.args.to.now)

pub loop-i-preserved : goal.loop-i-preserved
loop-i-preserved g c =
    options-next g.P.Machine.steps_to c.args.from.now c.args.c c.args.to.now c.args.parts.now c.loop-i.options c.push.new.self c.loop-i.i c.index-parts-i.result c.index-from-i.result c.index-to-i.result c.in_ok-costs_to.field-0
    c.loop-i-test.true (states-length g.P.Machine.is_state c.args.parts.now c.args.from.now c.requires.states) c.requires.to c.index-parts-i.is c.index-from-i.is c.index-to-i.is c.loop-i.invariant
    (costs-exact c.args.c c.index-to-i.result (g.P.Machine.steps_to c.index-parts-i.result c.index-from-i.result) c.in_ok-moves.moves c.as_slice.result.now c.in_ok-costs_to.field-0 c.in_ok-moves.ensures.exact c.as_slice.ensures c.in_ok-costs_to.ensures)
    c.in_ok-push.ensures.ok

pub returns : goal.returns
returns g c = options-all g.P.Machine.steps_to c.args.from.now c.args.c c.args.to.now c.args.parts.now c.loop-i.options c.loop-i.i c.loop-i-test.false c.loop-i.invariant

pub moves-requires : goal.moves-requires
moves-requires g c = states-at g.P.Machine.is_state c.args.parts.now c.args.from.now c.loop-i.i c.index-parts-i.result c.index-from-i.result c.requires.states c.loop-i-test.true c.index-parts-i.is c.index-from-i.is

pub bounds-from-i : goal.bounds-from-i
bounds-from-i g c =
    let same = states-length g.P.Machine.is_state c.args.parts.now c.args.from.now c.requires.states in
    let lt = c.loop-i-test.true in
    omega arith

pub bounds-to-i : goal.bounds-to-i
bounds-to-i g c =
    let same = c.requires.to in
    let lt = c.loop-i-test.true in
    omega arith

pub offset_bounds-from-i : goal.offset_bounds-from-i
offset_bounds-from-i g c =
    let same = states-length g.P.Machine.is_state c.args.parts.now c.args.from.now c.requires.states in
    let lt = c.loop-i-test.true in
    omega arith
