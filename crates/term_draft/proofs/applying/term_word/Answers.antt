use Rattle.std.proofs.Common.{sym, ap, ◌∙◌}
use Rattle.sv_terms.specs.declared.entry.Body.TheVariants as body
use Rattle.term_weight.specs.Bodies.{literal}
use Rattle.term_weight.specs.LayerLaws.{word-Text}
use Rattle.term_draft.proofs.Words.{word-other}
use Rattle.term_draft.proofs.applying.term_word.Goals as goal

pub returns-in-Text : goal.returns-in-Text
returns-in-Text c = sym (word-Text c.in-Text.word) ∙ ap (λ z. literal (body.Term z)) (sym c.in-Text.is)

pub returns-in_default : goal.returns-in_default
returns-in_default c = word-other c.args.term c.in_default.not-Text
