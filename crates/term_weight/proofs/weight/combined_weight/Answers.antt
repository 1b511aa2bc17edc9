use Rattle.std.proofs.Common.{refl, ◌∙◌, ap, false}
use Rattle.term_weight.specs.declared.weight.Factor.TheVariants.{Known}
use Rattle.sv_terms.specs.declared.sort.Sort.TheVariants.{RegLan}
use Rattle.std.proofs.Common.{true}
use Rattle.term_weight.specs.Weights.{around, counted}
use Rattle.term_weight.proofs.Sums.{map-as-it-is}
use Rattle.term_weight.proofs.weight.combined_weight.Goals as goal

pub returns : goal.returns
returns c = c.weight_around.ensures ∙ ap (around RegLan Known true) (map-as-it-is (counted false) (λ w. refl) c.args.weights.now)
