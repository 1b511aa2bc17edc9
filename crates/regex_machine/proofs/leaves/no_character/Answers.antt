use Rattle.regex_machine.proofs.BuiltLemmas.{fits-builds}
use Rattle.regex_machine.proofs.leaves.no_character.Goals as goal

pub returns : goal.returns
returns c = fits-builds _ _ c.args.limit c.empty_word.result c.fit.result c.empty_word.ensures.reads c.empty_word.ensures.states c.fit.ensures
