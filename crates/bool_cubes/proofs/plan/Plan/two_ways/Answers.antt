use Rattle.std.proofs.lemmas.Result.{IfOk-weaker}
use Rattle.bool_cubes.proofs.Plans.{ways_added}
use Rattle.bool_cubes.proofs.plan.Plan.two_ways.Goals as goal

pub returns : goal.returns
returns c =
    IfOk-weaker c.either.result _ _ (λ k added.
    ways_added c.args.self.now.nodes c.both.new.self.nodes c.both-2.new.self.nodes c.either.new.self.nodes c.args.a c.args.b c.args.c c.args.d c.in_ok-first.first c.in_ok-second.second k c.requires.a c.requires.b c.requires.c c.requires.d
    c.in_ok-first.ensures c.in_ok-second.ensures added) c.either.ensures
