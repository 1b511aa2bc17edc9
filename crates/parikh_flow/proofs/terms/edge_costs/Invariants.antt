use Rattle.std.proofs.Common.{◌≡◌, ◌<◌, ◌^◌, All, map, take, slice_index}
use Rattle.parikh_flow.specs.Rows.{edge_cost}
use Rattle.parikh_flow.proofs.terms.edge_costs.Given as goal

abbrev pub invariant-loop-edge : goal.invariant-loop-edge
invariant-loop-edge l = record {
  costs : l.costs ≡ map (edge_cost l.register) (take l.edge-index l.edges);
  fit : All (λ e. slice_index e.cost l.register < 2 ^ 64) (take l.edge-index l.edges);
}
