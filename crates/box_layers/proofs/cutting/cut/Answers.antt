use Rattle.std.proofs.Common.{◌≡◌, ◌+◌, ℕ, List, length, slice_get, Some, ap, subst, arith}
use Rattle.box_layers.specs.declared.layer.Layer.{Layer}
use Rattle.box_layers.proofs.CutLemmas.{just-opened, states-size, costs-size, run-start, run-next, run-end}
use Rattle.box_layers.proofs.cutting.cut.Goals as goal

pub loop-place-init : goal.loop-place-init
loop-place-init c = run-start c.args.layers.now.machines.now c.args.layers.now.rows.now c.args.layers.now.region.now c.args.layers.now.registers c.args.run.now c.requires c.new-runs.result c.in_ok-current.current c.new-runs.ensures (just-opened c.in_ok-current.current _ c.in_ok-current.ensures)

pub layer_at-from-requires : goal.layer_at-from-requires
layer_at-from-requires c =
    let size = states-size c.args.layers.now.machines.now c.args.layers.now.rows.now c.args.layers.now.region.now c.args.layers.now.registers c.args.run.now c.requires in
    let same = ap length c.as_slice.ensures in
    let end = c.len-place-end.ensures in
    let lt = c.loop-place-test.true in
    omega arith

pub layer_at-to-requires : goal.layer_at-to-requires
layer_at-to-requires c =
    let size = states-size c.args.layers.now.machines.now c.args.layers.now.rows.now c.args.layers.now.region.now c.args.layers.now.registers c.args.run.now c.requires in
    let same = ap length c.as_slice-in-loop-place.ensures in
    let end = c.len-place-end.ensures in
    let lt = c.loop-place-test.true in
    omega arith

pub cost_at-cost-requires : goal.cost_at-cost-requires
cost_at-cost-requires c =
    let size = costs-size c.args.layers.now.machines.now c.args.layers.now.rows.now c.args.layers.now.region.now c.args.layers.now.registers c.args.run.now c.requires in
    let same = ap length c.as_slice-in-loop-place-2.ensures in
    let end = c.len-place-end.ensures in
    let lt = c.loop-place-test.true in
    omega arith

pub loop-place-preserved : goal.loop-place-preserved
loop-place-preserved c = λ p at.
    let from = subst (λ (l : List Layer). slice_get l c.loop-place.place ≡ Some c.layer_at-from.result.now) c.as_slice.ensures c.layer_at-from.ensures in
    let to = subst (λ (l : List Layer). slice_get l (c.loop-place.place + 1) ≡ Some c.layer_at-to.result.now) c.as_slice-in-loop-place.ensures c.layer_at-to.ensures in
    let cost = subst (λ (l : List (List ℕ)). slice_get l c.loop-place.place ≡ Some c.cost_at-cost.result.now) c.as_slice-in-loop-place-2.ensures c.cost_at-cost.ensures in
    run-next c.args.layers.now.machines.now c.args.layers.now.rows.now c.args.layers.now.region.now c.args.layers.now.registers c.args.run.now c.requires c.loop-place.place c.layer_at-from.result.now c.layer_at-to.result.now p c.character_at-character.result c.cost_at-cost.result.now
    c.loop-place.runs c.cut_step.new.runs c.loop-place.current c.cut_step.new.current from to c.character_at-character.ensures.is cost (c.loop-place.invariant c.layer_at-from.result.now from) c.in_ok-cut_step.ensures at

pub returns : goal.returns
returns c =
    run-end c.args.layers.now.machines.now c.args.layers.now.rows.now c.args.layers.now.region.now c.args.layers.now.registers c.args.run.now c.requires c.loop-place.place c.loop-place.runs c.loop-place.current (let end = c.len-place-end.ensures in let le = c.loop-place.auto.place-end in let ge = c.loop-place-test.false in omega arith) c.loop-place.invariant
