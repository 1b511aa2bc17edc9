use Rattle.term_weight.specs.Bodies.{related}
use Rattle.term_draft.specs.Drafts.{at_places}
use Rattle.term_walk.proofs.Walking.{put-read}
use Rattle.term_walk.proofs.parts.relate.Goals as goal

pub returns : goal.returns
returns c = put-read c.args.walk.now c.put_related.new.self (related c.args.transducer.now (at_places c.args.walk.now.draft c.args.places)) c.in_ok-put_related.field-0 c.in_ok-put_related.ensures
