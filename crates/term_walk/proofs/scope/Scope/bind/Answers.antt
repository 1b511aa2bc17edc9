use Rattle.term_walk.proofs.Scoping.{index-bound}
use Rattle.term_walk.proofs.scope.Scope.bind.Goals as goal

pub invariant_of-self-in-Ok : goal.invariant_of-self-in-Ok
invariant_of-self-in-Ok c = index-bound c.self.inside.bindings c.push.new.self c.self.inside.places c.set.new.self c.args.name c.in_ok-key.key c.args.place c.get-hides.result c.self.invariant c.get-hides.ensures c.in_ok-key.ensures c.in_ok-push.ensures.ok c.in-Ok.ensures.set
