use Rattle.std.proofs.Common.{IsTrue, sym, ◌∙◌, subst}
use Rattle.sv_terms.specs.declared.term.Term.{Term}
use Rattle.assertion_parts.specs.Constants.{has_words}
use Rattle.assertion_parts.proofs.Sorts.{word-told}
use Rattle.assertion_parts.proofs.Terms.{words-Text}
use Rattle.assertion_parts.proofs.spelling.+words.Goals as goal

pub words-returns-in-Text : goal.words-returns-in-Text
words-returns-in-Text t c = subst (λ (z : Term). IsTrue (has_words z)) (sym c.in-Text.is) (words-Text c.in-Text.word ∙ word-told c.in-Text.word c.is_word.ensures)
