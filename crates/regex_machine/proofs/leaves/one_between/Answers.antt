use Rattle.regex_machine.proofs.BuiltLemmas.{fits-builds}
use Rattle.regex_machine.proofs.leaves.one_between.Goals as goal

pub returns : goal.returns
returns c = fits-builds _ _ c.args.limit c.range.result c.fit.result c.range.ensures.reads c.range.ensures.states c.fit.ensures
