use Rattle.std.proofs.Common.{subst, sym}
use Rattle.bool_cubes.specs.Marked.{own_steps}
use Rattle.literal_forms.specs.Past.{IsPlainExactly}
use Rattle.bool_cubes.proofs.past.node.Goals as goal

pub returns-in-One : goal.returns-in-One
returns-in-One c = subst (λ k. IsPlainExactly (own_steps k) c.check_atom.result) (sym c.in-One.is) c.check_atom.ensures
