use Rattle.std.proofs.Common.{Contains, length, ap, sym, ◌∙◌, subst, arith}
use Rattle.machine_core.specs.PlaceLaws.{length-add_to}
use Rattle.pre_image.specs.Indexed.{edge_source}
use Rattle.pre_image.proofs.RowLemmas.{index-step}
use Rattle.pre_image.proofs.pre.edges_by_state.Goals as goal

pub add-requires : goal.add-requires
add-requires c =
    let x = c.edge-item.result in
    let inside = c.requires.edge x (subst (λ l. Contains l x) c.as_slice-edge-items.ensures (c.loop-place.place, c.loop-place-test.true, sym c.edge-item.is)) in
    let low = inside.from in
    omega (arith, low, c.loop-place.invariant.rows)

pub loop-place-preserved : goal.loop-place-preserved
loop-place-preserved c = record {
  rows = ap length c.in_ok-add.ensures.ok ∙ length-add_to _ _ _ ∙ c.loop-place.invariant.rows;
  found = index-step edge_source c.as_slice-edge-items.result.now c.loop-place.place c.edge-item.result c.loop-place.rows c.add.new.self c.loop-place-test.true c.edge-item.is c.loop-place.invariant.found c.in_ok-add.ensures.ok;
}
