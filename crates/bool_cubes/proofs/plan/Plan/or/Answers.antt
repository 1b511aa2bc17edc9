use Rattle.bool_cubes.proofs.Plans.{or_by_and, turned_within}
use Rattle.bool_cubes.proofs.plan.Plan.or.Goals as goal

pub returns-clause-within : goal.returns-clause-within
returns-clause-within c = turned_within c.and.new.self.nodes c.in_ok-failing.failing c.negation-3.result c.in_ok-failing.ensures.within c.negation-3.ensures.holding c.negation-3.ensures.failing

pub returns-clause-formula : goal.returns-clause-formula
returns-clause-formula c f g x y =
    or_by_and c.args.self.now.nodes c.and.new.self.nodes c.args.left c.args.right c.negation.result c.negation-2.result c.in_ok-failing.failing c.negation-3.result f g
    c.negation.ensures.holding c.negation.ensures.failing c.negation-2.ensures.holding c.negation-2.ensures.failing c.negation-3.ensures.holding c.negation-3.ensures.failing c.in_ok-failing.ensures.formula x y
