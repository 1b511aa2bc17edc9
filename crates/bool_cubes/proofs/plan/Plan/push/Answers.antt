use Rattle.bool_cubes.proofs.Plans.{pushed_at}
use Rattle.bool_cubes.proofs.plan.Plan.push.Goals as goal

pub returns : goal.returns
returns c = pushed_at c.args.self.now.nodes c.push.new.self c.args.kind c.args.cubes c.len-at.result c.requires.plan c.requires.earlier c.requires.cubes c.in_ok-push.ensures.ok c.len-at.ensures
