use Rattle.sv_terms.specs.declared.entry.Body.TheVariants as body
use Rattle.sv_terms.specs.declared.term.Term.TheVariants as term
use Rattle.term_walk.proofs.Walking.{put-read}
use Rattle.term_walk.proofs.parts.constant.Goals as goal

pub returns : goal.returns
returns c = put-read c.args.walk.now c.put_constant.new.self (body.Term (term.Constant c.args.name c.args.sort)) c.in_ok-put_constant.field-0 c.in_ok-put_constant.ensures
