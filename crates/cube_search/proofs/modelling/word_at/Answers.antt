use Rattle.std.proofs.Common.{◌∙◌}
use Rattle.std.proofs.lemmas.Result.{IfOk-weaker}
use Rattle.cube_search.proofs.ModelLemmas.{word-past, word-there}
use Rattle.cube_search.proofs.modelling.word_at.Goals as goal

pub returns-then-place-runs : goal.returns-then-place-runs
returns-then-place-runs c = IfOk-weaker c.word_of.result _ _ (λ word is. is ∙ word-there c.args.runs.now c.args.place c.index-runs-place.result c.if-place-runs.true c.index-runs-place.is) c.word_of.ensures

pub returns-else-place-runs : goal.returns-else-place-runs
returns-else-place-runs c = c.new.ensures ∙ word-past c.args.runs.now c.args.place c.if-place-runs.false
