use Rattle.bool_cubes.proofs.Plans.{implication_added}
use Rattle.bool_cubes.proofs.plan.Plan.implication.Goals as goal

pub returns : goal.returns
returns c f g x y = implication_added c.args.self.now.nodes c.settle.new.self.nodes c.or.new.self.nodes c.or-2.new.self.nodes c.args.left c.args.right c.in_ok-never.never c.in_ok-last.last c.negation.result c.or-2.result f g x y c.in_ok-never.ensures c.in_ok-last.ensures.formula c.negation.ensures.holding c.negation.ensures.failing c.or-2.ensures.formula
