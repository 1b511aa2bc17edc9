use Rattle.bool_cubes.proofs.Exact.{cubes_exact}
use Rattle.bool_cubes.proofs.laws.cubes_are_exact.Goals as goal

pub returns : goal.returns
returns c = cubes_exact (λ values. c.terms_have_values.ensures values)
