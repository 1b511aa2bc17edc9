use Rattle.std.proofs.Common.{◌≡◌, map, take}
use Rattle.term_weight.specs.Bodies.{parameter_name}
use Rattle.sort_check.proofs.defining.escape_parameters.Given as goal

abbrev pub invariant-loop-variable : goal.invariant-loop-variable
invariant-loop-variable l = l.all ≡ map (λ p. (parameter_name p.0, p.1)) (take l.variable-index l.variables)
