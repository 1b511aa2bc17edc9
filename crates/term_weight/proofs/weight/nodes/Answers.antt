use Rattle.std.proofs.Common.{arith}
use Rattle.term_weight.specs.Weights.{counted}
use Rattle.term_weight.proofs.Sums.{total-end}
use Rattle.term_weight.proofs.weight.nodes.Goals as goal

pub returns : goal.returns
returns c = total-end (counted c.args.as_terms) (λ x. x.nodes) c.args.weights.now c.loop-weight.weight-index c.loop-weight.n _ (omega arith) c.loop-weight.invariant.1 c.loop-weight.invariant.0
