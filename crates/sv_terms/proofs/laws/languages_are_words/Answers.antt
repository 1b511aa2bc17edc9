use Rattle.sv_terms.specs.OnlyWords.{In-word}
use Rattle.sv_terms.proofs.laws.languages_are_words.Goals as goal

pub returns : goal.returns
returns c = In-word
