use Rattle.bool_cubes.proofs.Plans.{choice_added}
use Rattle.bool_cubes.proofs.plan.Plan.choice.Goals as goal

pub two_ways-requires-2-clause-plan : goal.two_ways-requires-2-clause-plan
two_ways-requires-2-clause-plan c = c.in_ok-holding.ensures.longer.plan

pub returns : goal.returns
returns c e f g z x y =
    choice_added c.args.self.now.nodes c.two_ways.new.self.nodes c.two_ways-2.new.self.nodes c.in_ok-holding.holding c.in_ok-failing.failing c.args.test c.args.first c.args.second e f g z x y c.in_ok-holding.ensures c.in_ok-failing.ensures
