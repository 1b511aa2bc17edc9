use Rattle.term_draft.specs.Drafts.{at_places}
use Rattle.term_weight.specs.Ranks.{applied}
use Rattle.term_walk.proofs.Walking.{put-read}
use Rattle.term_walk.proofs.parts.apply_function.Goals as goal

pub returns : goal.returns
returns c = put-read c.args.walk.now c.put_applied.new.self (applied c.args.function (at_places c.args.walk.now.draft c.args.places)) c.in_ok-put_applied.field-0 c.in_ok-put_applied.ensures
