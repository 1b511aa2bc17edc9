use Rattle.std.proofs.Common.{rules, Ok}
use Rattle.std.proofs.lemmas.Int.{to_z-of_z}
use Rattle.term_walk.proofs.Walking.{put-read, number-read, number-past}
use Rattle.term_walk.proofs.parts.read_number.Goals as goal

pub returns-in_ok-put_number-in-Some : goal.returns-in_ok-put_number-in-Some
returns-in_ok-put_number-in-Some c = λ s. number-read s c.args.text.now _ c.args.walk.now _ (Ok c.in_ok-put_number-in-Some.field-0) (put-read c.args.walk.now c.put_number.new.self _ c.in_ok-put_number-in-Some.field-0 c.in_ok-put_number-in-Some.ensures) c.in-Some.ensures.0 (search (rules, to_z-of_z))

pub returns-in-None : goal.returns-in-None
returns-in-None c = λ s. number-past s c.args.text.now c.in-None.ensures
