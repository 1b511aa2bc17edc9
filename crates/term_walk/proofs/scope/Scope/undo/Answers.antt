use Rattle.std.proofs.Common.{refl}
use Rattle.term_walk.proofs.Scoping.{index-left, index-there}
use Rattle.term_walk.proofs.scope.Scope.undo.Goals as goal

pub invariant_of-self : goal.invariant_of-self
invariant_of-self c = index-left c.self.inside.bindings c.pop.new.self c.in-Some.field-0 c.in-Some.field-0.name c.in-Some.field-0.hides c.self.inside.places c.set.new.self c.self.invariant c.in-Some.ensures refl refl c.in-Ok.ensures.set

pub invariant_of-self-in-Err : goal.invariant_of-self-in-Err
invariant_of-self-in-Err c = absurd (index-there c.self.inside.bindings c.pop.new.self c.in-Some.field-0 c.in-Some.field-0.name c.self.inside.places c.self.invariant c.in-Some.ensures refl c.in-Err.ensures.absent)
