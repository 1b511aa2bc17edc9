use Rattle.std.proofs.Common.{◌∙◌, ◌+◌, ◌++◌, ◌∷◌, [], take, ap, sym, arith}
use Rattle.parikh_flow.specs.Counts.{size_of}
use Rattle.parikh_flow.specs.Nets.{net_of, nets_of}
use Rattle.parikh_flow.proofs.FormLemmas.{after-more, after-room, nets-more}
use Rattle.parikh_flow.proofs.nets.nets_of.Goals as goal

pub net_of-requires : goal.net_of-requires
net_of-requires c =
    let room = after-room c.args.base c.args.machines.now c.loop-machine.machine-index c.machine-item.result c.loop-machine-test.true c.machine-item.is in
    let now = c.loop-machine.invariant.next in
    let few = c.requires in
    omega arith

pub next_base-next-requires : goal.next_base-next-requires
next_base-next-requires c =
    let room = after-room c.args.base c.args.machines.now c.loop-machine.machine-index c.machine-item.result c.loop-machine-test.true c.machine-item.is in
    let now = c.loop-machine.invariant.next in
    let few = c.requires in
    omega arith

pub loop-machine-preserved : goal.loop-machine-preserved
loop-machine-preserved c = record {
  next = c.next_base-next.ensures ∙ ap (λ n. n + size_of c.machine-item.result) c.loop-machine.invariant.next
      ∙ sym (after-more c.args.base c.args.machines.now c.loop-machine.machine-index c.machine-item.result c.loop-machine-test.true c.machine-item.is);
  nets = c.in_ok-push.ensures.ok ∙ ap (λ n. c.loop-machine.nets ++ n ∷ []) c.in_ok-net_of.ensures ∙ ap (λ l. l ++ net_of c.loop-machine.next c.machine-item.result ∷ []) c.loop-machine.invariant.nets
      ∙ ap (λ n. nets_of c.args.base (take c.loop-machine.machine-index c.args.machines.now) ++ net_of n c.machine-item.result ∷ []) c.loop-machine.invariant.next
      ∙ sym (nets-more c.args.base c.args.machines.now c.loop-machine.machine-index c.machine-item.result c.loop-machine-test.true c.machine-item.is);
}
