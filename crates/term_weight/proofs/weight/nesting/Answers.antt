use Rattle.std.proofs.Common.{arith}
use Rattle.term_weight.specs.Weights.{counted}
use Rattle.term_weight.proofs.Sums.{deepest-end}
use Rattle.term_weight.proofs.weight.nesting.Goals as goal

pub returns : goal.returns
returns c = deepest-end (counted c.args.as_terms) (λ x. x.nesting) c.args.weights.now c.loop-weight.weight-index c.loop-weight.n _ (omega arith) c.loop-weight.invariant.1 c.loop-weight.invariant.0
