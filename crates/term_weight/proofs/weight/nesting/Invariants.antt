use Rattle.std.proofs.Common.{◌≡◌, ◌≤◌, map, drop, max}
use Rattle.term_weight.specs.Sizes.{one_deeper}
use Rattle.term_weight.specs.Weights.{capped, counted}
use Rattle.term_weight.proofs.weight.nesting.Given as goal

abbrev pub invariant-loop-weight : goal.invariant-loop-weight
invariant-loop-weight l = (capped (max l.n (one_deeper (map (λ x. x.nesting) (map (counted l.as_terms) (drop l.weight-index l.weights))))) ≡ capped (one_deeper (map (λ x. x.nesting) (map (counted l.as_terms) l.weights)))) × (l.n ≤ 4294967295)
