use Rattle.sv_terms.proofs.Truths.{no-other-text}
use Rattle.sv_terms.proofs.laws.texts_are_words.Goals as goal

pub returns : goal.returns
returns c = no-other-text
