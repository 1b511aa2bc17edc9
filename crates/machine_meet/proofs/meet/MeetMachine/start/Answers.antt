use Rattle.std.proofs.Common.{[], ◌∷◌, ◌++◌, map, refl, ap, ◌∙◌}
use Rattle.std.proofs.lemmas.List.{take_all}
use Rattle.machine_meet.proofs.PushLemmas.{pushed-more}
use Rattle.machine_meet.proofs.meet.MeetMachine.start.Goals as goal

pub loop-part-init : goal.loop-part-init
loop-part-init g c = c.new-first.ensures

pub loop-part-preserved : goal.loop-part-preserved
loop-part-preserved g c =
    let parts = c.args.self.now.parts.now in
    pushed-more g.P.Machine.first parts parts [] c.loop-part.first c.push.new.self c.loop-part.part-index c.part-item.result refl c.loop-part-test.true c.part-item.is c.loop-part.invariant
    (c.in_ok-push.ensures.ok ∙ ap (λ s. c.loop-part.first ++ s ∷ []) c.in_ok-start.ensures)

pub returns : goal.returns
returns g c = c.loop-part.invariant ∙ ap (map g.P.Machine.first) (take_all c.loop-part.part-index c.args.self.now.parts.now c.loop-part-test.false)
