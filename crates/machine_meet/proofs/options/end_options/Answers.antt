use Rattle.std.proofs.Common.{arith}
use Rattle.machine_meet.specs.Splits.{as_step}
use Rattle.machine_meet.proofs.ProductLemmas.{states-length, states-at}
use Rattle.machine_meet.proofs.OptionLemmas.{options-start, options-next, options-all}
use Rattle.machine_meet.proofs.options.end_options.Goals as goal

pub loop-i-init : goal.loop-i-init
loop-i-init g c = rw c.new-options.ensures (options-start (as_step g.P.Machine.ends_with) c.args.at.now 0 c.args.at.now)

pub loop-i-preserved : goal.loop-i-preserved
loop-i-preserved g c =
    let same = states-length g.P.Machine.is_state c.args.parts.now c.args.at.now c.requires in
    options-next (as_step g.P.Machine.ends_with) c.args.at.now 0 c.args.at.now c.args.parts.now c.loop-i.options c.push.new.self c.loop-i.i c.index-parts-i.result c.index-at-i.result c.index-at-i.result c.in_ok-ends.field-0
    c.loop-i-test.true same same c.index-parts-i.is c.index-at-i.is c.index-at-i.is c.loop-i.invariant c.in_ok-ends.ensures c.in_ok-push.ensures.ok

pub returns : goal.returns
returns g c = options-all (as_step g.P.Machine.ends_with) c.args.at.now 0 c.args.at.now c.args.parts.now c.loop-i.options c.loop-i.i c.loop-i-test.false c.loop-i.invariant

pub ends-requires : goal.ends-requires
ends-requires g c = states-at g.P.Machine.is_state c.args.parts.now c.args.at.now c.loop-i.i c.index-parts-i.result c.index-at-i.result c.requires c.loop-i-test.true c.index-parts-i.is c.index-at-i.is

pub bounds-at-i : goal.bounds-at-i
bounds-at-i g c =
    let same = states-length g.P.Machine.is_state c.args.parts.now c.args.at.now c.requires in
    let lt = c.loop-i-test.true in
    omega arith

pub offset_bounds-at-i : goal.offset_bounds-at-i
offset_bounds-at-i g c =
    let same = states-length g.P.Machine.is_state c.args.parts.now c.args.at.now c.requires in
    let lt = c.loop-i-test.true in
    omega arith
