use Rattle.std.proofs.Common.{◌≡◌, drop}
use Rattle.std.specs.List.{list_all}
use Rattle.term_weight.proofs.weight.are_languages.Given as goal

abbrev pub invariant-loop-weight : goal.invariant-loop-weight
invariant-loop-weight l = list_all (λ x. x.is_language) (drop l.weight-index l.weights) ≡ list_all (λ x. x.is_language) l.weights
