use Rattle.regex_machine.proofs.BuiltLemmas.{fits-builds}
use Rattle.regex_machine.proofs.leaves.no_word.Goals as goal

pub returns : goal.returns
returns c = fits-builds _ _ c.args.limit c.nothing.result c.fit.result c.nothing.ensures.reads c.nothing.ensures.states c.fit.ensures
