use Rattle.std.proofs.Common.{◌≡◌, List, length, slice_get, Some, ap, subst, arith}
use Rattle.std.specs.Prelude.{IfSome}
use Rattle.box_layers.specs.declared.layer.Layer.{Layer}
use Rattle.box_layers.specs.Layers.{uppers_of, AreGoodTotals, LayerStep}
use Rattle.box_search.proofs.TraceLemmas.{way-size, way-layer, way-grown}
use Rattle.box_search.proofs.retracing.go_on.Goals as goal

pub layer_at-at-requires : goal.layer_at-at-requires
layer_at-at-requires c =
    let size = way-size c.args.layers.now.machines.now c.args.layers.now.rows.now c.args.layers.now.region.now c.args.run.now c.requires in
    let same = ap length c.as_slice.ensures in
    let word = c.len.ensures in
    omega arith

pub step_to-requires : goal.step_to-requires
step_to-requires c =
    let at = subst (λ n. slice_get c.args.run.now.states n ≡ Some c.layer_at-at.result.now) c.len.ensures (subst (λ (l : List Layer). slice_get l c.len.result ≡ Some c.layer_at-at.result.now) c.as_slice.ensures c.layer_at-at.ensures) in
    way-layer c.args.layers.now.machines.now c.args.layers.now.rows.now c.args.layers.now.region.now c.args.run.now c.requires c.layer_at-at.result.now at

pub returns : goal.returns
returns c = λ _.
    let at = subst (λ n. slice_get c.args.run.now.states n ≡ Some c.layer_at-at.result.now) c.len.ensures (subst (λ (l : List Layer). slice_get l c.len.result ≡ Some c.layer_at-at.result.now) c.as_slice.ensures c.layer_at-at.ensures) in
    let layers = c.args.layers.now in
    let step = c.in-Some.step in
    way-grown c.args.layers.now.machines.now c.args.layers.now.rows.now c.args.layers.now.region.now c.args.run.now c.requires c.add_step.new.run c.layer_at-at.result.now step.to step.character step.cost at
    (subst (λ o. IfSome o (λ s. LayerStep layers.machines.now (uppers_of layers.region.now) (AreGoodTotals layers.rows.now layers.region.now) c.layer_at-at.result.now s.character s.cost s.to)) c.in-Some.is c.in_ok-step.ensures)
    c.in_ok-add_step.ensures.states c.in_ok-add_step.ensures.word c.in_ok-add_step.ensures.costs
