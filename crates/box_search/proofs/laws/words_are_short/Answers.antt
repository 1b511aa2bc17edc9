use Rattle.box_search.proofs.WordLemmas.{word-short}
use Rattle.box_search.proofs.laws.words_are_short.Goals as goal

pub returns : goal.returns
returns c = word-short
