use Rattle.std.proofs.Common.{◌≡◌, arith}
use Rattle.machine_core.proofs.WalkLemmas.{follow-start, follow-below, follow-character, follow-step, follow-end}
use Rattle.machine_core.proofs.run.Run+u32.along.Goals as goal

pub loop-k-init : goal.loop-k-init
loop-k-init c =
    follow-start c.args.machine.now.edges c.args.back.now c.args.last.now c.in_ok-copy.field-0 c.in_ok-run.run' c.requires c.in_ok-copy.ensures c.in_ok-run.ensures

pub offset_bounds-edges-back : goal.offset_bounds-edges-back
offset_bounds-edges-back c =
    let below = follow-below c.args.machine.now c.args.back.now c.args.last.now c.loop-k.k c.loop-k.run c.loop-k-test.true c.loop-k.invariant c.edges.result.now c.edges.ensures in
    omega arith

pub bounds-edges-back : goal.bounds-edges-back
bounds-edges-back c =
    follow-below c.args.machine.now c.args.back.now c.args.last.now c.loop-k.k c.loop-k.run c.loop-k-test.true c.loop-k.invariant c.edges.result.now c.edges.ensures

pub add_step-requires : goal.add_step-requires
add_step-requires c =
    follow-character c.args.machine.now c.args.back.now c.args.last.now c.loop-k.k c.loop-k.run c.loop-k-test.true c.loop-k.invariant c.edges.result.now c.index-edges-back.result c.edges.ensures c.index-edges-back.is c.least.result c.least.ensures

pub loop-k-preserved : goal.loop-k-preserved
loop-k-preserved c =
    follow-step c.args.machine.now c.args.back.now c.args.last.now c.loop-k.k c.loop-k.run c.loop-k-test.true c.loop-k.invariant c.edges.result.now c.index-edges-back.result c.edges.ensures c.index-edges-back.is
    c.least.result c.add_step.new.self c.least.ensures c.in_ok-add_step.ensures

pub returns-clause-along : goal.returns-clause-along
returns-clause-along c =
    let end : c.loop-k.k ≡ 0 = (let test = c.loop-k-test.false in omega arith) in
    follow-end c.args.machine.now.edges c.args.back.now c.args.last.now c.loop-k.k c.loop-k.run end c.loop-k.invariant

pub returns-clause-last : goal.returns-clause-last
returns-clause-last c = c.loop-k.invariant.cost
