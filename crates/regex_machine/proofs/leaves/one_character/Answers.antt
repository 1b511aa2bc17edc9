use Rattle.regex_machine.proofs.BuiltLemmas.{fits-builds}
use Rattle.regex_machine.proofs.leaves.one_character.Goals as goal

pub returns : goal.returns
returns c = fits-builds _ _ c.args.limit c.any_character.result c.fit.result c.any_character.ensures.reads c.any_character.ensures.states c.fit.ensures
