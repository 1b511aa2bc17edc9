use Rattle.std.proofs.Common.{◌≡◌, ℕ, List, ◌∷◌, [], length, slice_get, Any, Some, refl, sym, ap, subst, arith}
use Rattle.sv_list.specs.Lists.{Any-here, Any-append_right}
use Rattle.box_layers.specs.declared.layer.Layer.{Layer}
use Rattle.box_search.proofs.TraceLemmas.{way-size, way-layer, way-ended}
use Rattle.box_search.proofs.retracing.end.Goals as goal

pub layer_at-at-requires : goal.layer_at-at-requires
layer_at-at-requires c =
    let size = way-size c.args.layers.now.machines.now c.args.layers.now.rows.now c.args.layers.now.region.now c.args.run.now c.requires in
    let same = ap length c.as_slice.ensures in
    let word = c.len.ensures in
    omega arith

pub ends-requires : goal.ends-requires
ends-requires c =
    let at = subst (λ n. slice_get c.args.run.now.states n ≡ Some c.layer_at-at.result.now) c.len.ensures (subst (λ (l : List Layer). slice_get l c.len.result ≡ Some c.layer_at-at.result.now) c.as_slice.ensures c.layer_at-at.ensures) in
    way-layer c.args.layers.now.machines.now c.args.layers.now.rows.now c.args.layers.now.region.now c.args.run.now c.requires c.layer_at-at.result.now at

pub returns : goal.returns
returns c = λ _.
    let at = subst (λ n. slice_get c.args.run.now.states n ≡ Some c.layer_at-at.result.now) c.len.ensures (subst (λ (l : List Layer). slice_get l c.len.result ≡ Some c.layer_at-at.result.now) c.as_slice.ensures c.layer_at-at.ensures) in
    let last = c.in-Some.last in
    let some : Any (λ (e : List ℕ). e ≡ last) c.in_ok-ends.ends =
    subst (Any (λ (e : List ℕ). e ≡ last)) (sym c.in-Some.ensures) (Any-append_right (λ (e : List ℕ). e ≡ last) c.pop.new.self (last ∷ []) (Any-here (λ (e : List ℕ). e ≡ last) last [] refl)) in
    way-ended c.args.layers.now.machines.now c.args.layers.now.rows.now c.args.layers.now.region.now c.args.run.now c.requires (record { word = c.args.run.now.word; states = c.args.run.now.states; costs = c.args.run.now.costs; last = last }) c.layer_at-at.result.now at
    ((c.in_ok-ends.ensures last).1 some) refl refl refl
