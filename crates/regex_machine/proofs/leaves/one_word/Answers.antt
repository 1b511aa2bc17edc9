use Rattle.regex_machine.proofs.BuiltLemmas.{fits-builds}
use Rattle.regex_machine.proofs.leaves.one_word.Goals as goal

pub returns : goal.returns
returns c = fits-builds _ _ c.args.limit c.text.result c.fit.result c.text.ensures.reads c.text.ensures.states c.fit.ensures
