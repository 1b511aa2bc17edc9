use Rattle.std.proofs.Common.{subst}
use Rattle.leaf_solve.specs.Steps.{IsSystemFor}
use Rattle.leaf_solve.proofs.rows.by_rows.Goals as goal

pub hit_of-requires-clause-system : goal.hit_of-requires-clause-system
hit_of-requires-clause-system c = subst (λ r. IsSystemFor c.args.question.now r c.in_ok-bounded.bounded) c.row_reach.ensures c.in_ok-bounded.ensures.system

pub past_reach-requires-clause-bounded : goal.past_reach-requires-clause-bounded
past_reach-requires-clause-bounded c = subst (λ r. IsSystemFor c.args.question.now r c.in_ok-bounded.bounded) c.row_reach.ensures c.in_ok-bounded.ensures.system

pub in_region-requires-clause-bounded : goal.in_region-requires-clause-bounded
in_region-requires-clause-bounded c = subst (λ r. IsSystemFor c.args.question.now r c.in_ok-bounded.bounded) c.row_reach.ensures c.in_ok-bounded.ensures.system
