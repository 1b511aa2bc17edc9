use Rattle.term_weight.specs.Bodies.{opaque}
use Rattle.term_walk.proofs.Walking.{put-read}
use Rattle.term_walk.proofs.parts.put_opaque.Goals as goal

pub returns : goal.returns
returns c = put-read c.args.walk.now c.put_opaque.new.self (opaque c.args.sort) c.in_ok-put_opaque.field-0 c.in_ok-put_opaque.ensures
