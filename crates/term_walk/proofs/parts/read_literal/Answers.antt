use Rattle.std.proofs.Common.{sym, ◌∙◌, Ok}
use Rattle.sv_terms.specs.declared.entry.Body.TheVariants as body
use Rattle.sv_terms.specs.declared.term.Term.TheVariants as term
use Rattle.term_walk.proofs.Walking.{put-read, literal-read, literal-none}
use Rattle.term_walk.proofs.parts.read_literal.Goals as goal

pub returns-in_ok-put_word-in-Some : goal.returns-in_ok-put_word-in-Some
returns-in_ok-put_word-in-Some c =
    λ s.
    let w = c.in-Some.word in
    literal-read s c.args.text.now w c.args.walk.now _ (Ok c.in_ok-put_word-in-Some.field-0) (sym c.in-Some.is ∙ c.in_ok-word.ensures) (put-read c.args.walk.now c.put_word.new.self (body.Term (term.Text w)) c.in_ok-put_word-in-Some.field-0 c.in_ok-put_word-in-Some.ensures)

pub returns-in-None : goal.returns-in-None
returns-in-None c = λ s. literal-none s c.args.text.now (sym c.in-None.is ∙ c.in_ok-word.ensures)
