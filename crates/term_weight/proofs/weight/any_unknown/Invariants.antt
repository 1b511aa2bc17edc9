use Rattle.std.proofs.Common.{◌≡◌, map, drop}
use Rattle.std.specs.List.{list_any}
use Rattle.term_weight.specs.Bodies.{is_unknown}
use Rattle.term_weight.specs.Weights.{as_term}
use Rattle.term_weight.proofs.weight.any_unknown.Given as goal

abbrev pub invariant-loop-weight : goal.invariant-loop-weight
invariant-loop-weight l = list_any is_unknown (map (λ x. x.factor) (map as_term (drop l.weight-index l.weights))) ≡ list_any is_unknown (map (λ x. x.factor) (map as_term l.weights))
