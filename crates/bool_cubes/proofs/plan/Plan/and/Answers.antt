use Rattle.bool_cubes.proofs.Plans.{and_added, longer_trans, or_within}
use Rattle.bool_cubes.proofs.plan.Plan.and.Goals as goal

pub either-requires-clause-plan : goal.either-requires-clause-plan
either-requires-clause-plan c = c.in_ok-holding.ensures.longer.plan

pub returns-clause-longer : goal.returns-clause-longer
returns-clause-longer c = longer_trans c.args.self.now.nodes c.both.new.self.nodes c.either.new.self.nodes c.in_ok-holding.ensures.longer c.in_ok-failing.ensures.longer

pub returns-clause-within : goal.returns-clause-within
returns-clause-within c = or_within c.args.self.now.nodes c.both.new.self.nodes c.either.new.self.nodes c.in_ok-holding.holding c.in_ok-failing.failing _ _ c.in_ok-holding.ensures c.in_ok-failing.ensures

pub returns-clause-formula : goal.returns-clause-formula
returns-clause-formula c f g x y = and_added c.args.self.now.nodes c.both.new.self.nodes c.either.new.self.nodes c.args.left c.args.right f g c.in_ok-holding.holding c.in_ok-failing.failing x y c.in_ok-holding.ensures c.in_ok-failing.ensures
