use Rattle.std.proofs.Common.{◌≡◌, ◌≤◌, map, drop, ◌+◌}
use Rattle.term_weight.specs.Sizes.{one_more, total}
use Rattle.term_weight.specs.Weights.{capped, counted}
use Rattle.term_weight.proofs.weight.nodes.Given as goal

abbrev pub invariant-loop-weight : goal.invariant-loop-weight
invariant-loop-weight l = (capped (l.n + total (map (λ x. x.nodes) (map (counted l.as_terms) (drop l.weight-index l.weights)))) ≡ capped (one_more (map (λ x. x.nodes) (map (counted l.as_terms) l.weights)))) × (l.n ≤ 4294967295)
