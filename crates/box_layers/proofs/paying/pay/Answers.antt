use Rattle.box_layers.proofs.MoveLemmas.{pay-step, pay-above, pay-end}
use Rattle.box_layers.proofs.paying.pay.Goals as goal

pub returns-in_default : goal.returns-in_default
returns-in_default c = λ h. pay-above c.args.spent.now c.args.cost.now c.args.sides.now c.loop-register.register 0 0 (0, 0) c.loop-register-test.true c.in_default.ensures c.requires.cost c.requires.sides h

pub loop-register-preserved : goal.loop-register-preserved
loop-register-preserved c =
    let r = pay-step c.args.spent.now c.args.cost.now c.args.sides.now c.loop-register.register 0 0 (0, 0) c.loop-register.sum c.push.new.self c.in-Some.after c.requires.cost c.requires.sides c.loop-register-test.true
    c.loop-register.invariant.sum c.loop-register.invariant.below c.in-Some.ensures c.in_ok-push.ensures.ok in
    record { sum = r.0; below = r.1 }

pub returns : goal.returns
returns c =
    pay-end c.args.spent.now c.args.cost.now c.args.sides.now c.loop-register.register c.loop-register.sum c.requires.cost c.requires.sides c.loop-register-test.false c.loop-register.invariant.sum c.loop-register.invariant.below
