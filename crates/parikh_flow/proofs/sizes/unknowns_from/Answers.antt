use Rattle.std.proofs.Common.{◌∙◌, ◌+◌, ap, sym, arith}
use Rattle.parikh_flow.specs.Counts.{size_of}
use Rattle.parikh_flow.proofs.FormLemmas.{after-more, after-room}
use Rattle.parikh_flow.proofs.sizes.unknowns_from.Goals as goal

pub returns-in_default : goal.returns-in_default
returns-in_default c =
    let room = after-room c.args.base c.args.machines.now c.loop-machine.machine-index c.machine-item.result c.loop-machine-test.true c.machine-item.is in
    let now = c.loop-machine.invariant in
    let past = c.in_default.ensures in
    omega arith

pub loop-machine-preserved : goal.loop-machine-preserved
loop-machine-preserved c =
    c.in-Some.ensures ∙ ap (λ n. n + size_of c.machine-item.result) c.loop-machine.invariant
    ∙ sym (after-more c.args.base c.args.machines.now c.loop-machine.machine-index c.machine-item.result c.loop-machine-test.true c.machine-item.is)
