use Rattle.std.proofs.Common.{◌∷◌, [], ◌++◌, List, true, ap, ◌∙◌, refl}
use Rattle.transducer_core.specs.declared.node.OutputNode.{OutputNode}
use Rattle.transducer_core.proofs.OutputLemmas.{base_one}
use Rattle.transducer_core.proofs.output_words.nothing.Goals as goal

pub returns : goal.returns
returns c =
    base_one c.push.new.self (record { firsts = c.new.result; ends = true }) (c.in_ok-push.ensures.ok ∙ ap (λ (xs : List OutputNode). xs ++ record { firsts = c.new.result; ends = true } ∷ []) c.new-nodes.ensures) c.new.ensures refl
