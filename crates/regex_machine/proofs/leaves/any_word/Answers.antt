use Rattle.regex_machine.proofs.BuiltLemmas.{fits-builds}
use Rattle.regex_machine.proofs.leaves.any_word.Goals as goal

pub returns : goal.returns
returns c = fits-builds _ _ c.args.limit c.everything.result c.fit.result c.everything.ensures.reads c.everything.ensures.states c.fit.ensures
