use Rattle.std.proofs.Common.{◌<◌, ◌^◌, slice_index, subst, arith}
use Rattle.std.proofs.lemmas.Grind.{common_steps}
use Rattle.std.proofs.lemmas.List.Elements.{All-more}
use Rattle.machine_core.specs.declared.edge.Edge.{Edge}
use Rattle.parikh_flow.proofs.terms.edge_costs.Goals as goal

pub loop-edge-preserved : goal.loop-edge-preserved
loop-edge-preserved c = record {
  costs = grind (arith, common_steps);
  fit = All-more (λ (e : Edge). slice_index e.cost c.args.register < 2 ^ 64) c.args.edges.now c.loop-edge.edge-index c.edge-item.result c.loop-edge-test.true c.loop-edge.invariant.fit
      (subst (λ (e : Edge). slice_index e.cost c.args.register < 2 ^ 64) c.edge-item.is (subst (λ n. n < 2 ^ 64) c.cost_at.ensures.value c.cost_at.ensures.fits));
}
