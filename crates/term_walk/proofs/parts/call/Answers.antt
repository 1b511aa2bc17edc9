use Rattle.term_weight.specs.Bodies.{called}
use Rattle.term_draft.specs.Drafts.{argument_place, at_places}
use Rattle.term_walk.proofs.Walking.{call-read}
use Rattle.term_walk.proofs.parts.call.Goals as goal

pub returns : goal.returns
returns c =
    let ps = c.args.defined.parameters.now in
    let b = c.args.defined.body.now in
    call-read _ c.args.walk.now c.put_called.new.self (argument_place c.args.walk.now.draft ps b c.args.places) (called ps b (at_places c.args.walk.now.draft c.args.places)) c.in_ok-put_called.field-0 c.in_ok-put_called.ensures
