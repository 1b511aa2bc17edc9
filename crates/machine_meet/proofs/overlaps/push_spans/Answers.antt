use Rattle.std.proofs.Common.{◌++◌, map, ap, ◌∙◌, refl}
use Rattle.machine_meet.specs.Overlaps.{span}
use Rattle.machine_meet.proofs.OverlapLemmas.{pairs-forward}
use Rattle.machine_meet.proofs.PushLemmas.{pushed-none, pushed-at, pushed-all}
use Rattle.machine_meet.proofs.overlaps.push_spans.Goals as goal

pub returns-in_err-push-clause-forward : goal.returns-in_err-push-clause-forward
returns-in_err-push-clause-forward c = pairs-forward 0 c.args.on.now c.as_slice-pair-items.ensures.apart

pub returns-clause-forward : goal.returns-clause-forward
returns-clause-forward c = pairs-forward 0 c.args.on.now c.as_slice-pair-items.ensures.apart

pub loop-pair-init : goal.loop-pair-init
loop-pair-init c = pushed-none (span c.args.place) c.as_slice-pair-items.result.now c.as_slice-pair-items.result.now c.args.spans.now.items

pub loop-pair-preserved : goal.loop-pair-preserved
loop-pair-preserved c =
    let items = c.as_slice-pair-items.result.now in
    pushed-at (span c.args.place) items items c.args.spans.now.items c.loop-pair.spans.items c.push.new.self.items c.loop-pair.pair-index (0, 0) c.loop-pair-test.true c.loop-pair.invariant c.in_ok-push.ensures.items

pub returns-clause-ok : goal.returns-clause-ok
returns-clause-ok c =
    let items = c.as_slice-pair-items.result.now in
    pushed-all (span c.args.place) items items c.args.spans.now.items c.loop-pair.spans.items c.loop-pair.pair-index refl c.loop-pair-test.false c.loop-pair.invariant
    ∙ ap (λ l. c.args.spans.now.items ++ map (span c.args.place) l) c.as_slice-pair-items.ensures.pairs
