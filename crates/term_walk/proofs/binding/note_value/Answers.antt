use Rattle.smt_names.specs.Form.{seen}
use Rattle.smt_names.specs.Tokens.{symbol}
use Rattle.term_walk.proofs.Walking.{noted-read}
use Rattle.term_walk.proofs.binding.note_value.Goals as goal

pub returns : goal.returns
returns c = λ x h. noted-read c.args.walk.now c.note.new.walk (symbol (seen c.args.name.now)) x c.args.place c.in_ok-bound.bound h c.in_ok-bound.ensures c.note.ensures.scope c.note.ensures.draft c.note.ensures.past
