use Rattle.std.proofs.Common.{◌≡◌, ◌∙◌, List, length, slice_get, Some, ap, subst, arith}
use Rattle.box_layers.specs.declared.layer.Layer.{Layer}
use Rattle.box_layers.proofs.CutLemmas.{states-size, stop-good}
use Rattle.box_layers.specs.LayerLaws.{good-length}
use Rattle.box_layers.proofs.HitLemmas.{good-some, good-hit}
use Rattle.box_layers.proofs.hitting.hit_of.Goals as goal

pub layer_at-stop-requires : goal.layer_at-stop-requires
layer_at-stop-requires c =
    let size = states-size c.args.layers.now.machines.now c.args.layers.now.rows.now c.args.layers.now.region.now c.args.layers.now.registers c.args.run.now c.requires in
    let same = ap length c.as_slice.ensures in
    let word = c.len.ensures in
    omega arith

pub numbers-requires : goal.numbers-requires
numbers-requires c =
    let at = subst (λ n. slice_get c.args.run.now.states n ≡ Some c.layer_at-stop.result.now) c.len.ensures (subst (λ (l : List Layer). slice_get l c.len.result ≡ Some c.layer_at-stop.result.now) c.as_slice.ensures c.layer_at-stop.ensures) in
    let good = stop-good c.args.layers.now.machines.now c.args.layers.now.rows.now c.args.layers.now.region.now c.args.layers.now.registers c.args.run.now c.requires c.layer_at-stop.result.now at in
    ap length c.as_slice-2.ensures ∙ good-length c.args.layers.now.rows.now c.args.layers.now.region.now c.layer_at-stop.result.now.spent good

pub unwrap-integers-requires : goal.unwrap-integers-requires
unwrap-integers-requires c =
    let at = subst (λ n. slice_get c.args.run.now.states n ≡ Some c.layer_at-stop.result.now) c.len.ensures (subst (λ (l : List Layer). slice_get l c.len.result ≡ Some c.layer_at-stop.result.now) c.as_slice.ensures c.layer_at-stop.ensures) in
    let good = stop-good c.args.layers.now.machines.now c.args.layers.now.rows.now c.args.layers.now.region.now c.args.layers.now.registers c.args.run.now c.requires c.layer_at-stop.result.now at in
    let o = rw c.as_slice-2.ensures at c.in_ok-numbers.ensures in
    good-some c.args.layers.now.rows.now c.args.layers.now.region.now c.layer_at-stop.result.now.spent c.in_ok-numbers.field-0 o good

pub returns-clause-hit : goal.returns-clause-hit
returns-clause-hit c = λ some.
    let at = subst (λ n. slice_get c.args.run.now.states n ≡ Some c.layer_at-stop.result.now) c.len.ensures (subst (λ (l : List Layer). slice_get l c.len.result ≡ Some c.layer_at-stop.result.now) c.as_slice.ensures c.layer_at-stop.ensures) in
    let o = rw c.as_slice-2.ensures at c.in_ok-numbers.ensures in
    let found = rw c.unwrap-integers.ensures at o in
    good-hit c.args.layers.now.machines.now c.args.layers.now.integers c.args.layers.now.rows.now c.args.layers.now.region.now c.args.run.now c.in_ok-runs.runs c.layer_at-stop.result.now c.unwrap-integers.result
    some c.args.layers.now.integer_sides c.in_ok-runs.ensures (c.in_ok-runs.ensures.total c.layer_at-stop.result.now at) found.0 found.1
