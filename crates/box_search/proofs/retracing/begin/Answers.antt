use Rattle.std.proofs.Common.{ap, ◌∙◌, ◌++◌, ◌∷◌, [], List}
use Rattle.box_layers.specs.declared.layer.Layer.{Layer}
use Rattle.box_search.proofs.TraceLemmas.{way-begun}
use Rattle.box_search.proofs.retracing.begin.Goals as goal

pub returns : goal.returns
returns c =
    way-begun c.args.layers.now.machines.now c.args.layers.now.rows.now c.args.layers.now.region.now (record { word = c.new.result; states = c.push.new.self; costs = c.new-2.result; last = c.new-3.result }) c.in_ok-start.field-0 c.in_ok-start.ensures
    (c.in_ok-push.ensures.ok ∙ ap (λ (l : List Layer). l ++ c.in_ok-start.field-0 ∷ []) c.new-states.ensures) c.new.ensures c.new-2.ensures
