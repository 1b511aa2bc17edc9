use Rattle.term_weight.specs.Summaries.{part}
use Rattle.term_weight.proofs.Telling.{tells-sum}
use Rattle.term_weight.proofs.summary.function.Goals as goal

pub returns-clause-tells : goal.returns-clause-tells
returns-clause-tells c = tells-sum c.args.places.now c.args.parameters c.args.sort c.in_ok-tally.tally (λ ws. part c.args.places.now ws c.args.term.now) c.in_ok-tally.ensures
