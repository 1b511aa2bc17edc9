use Rattle.std.proofs.Common.{◌≡◌, ◌+◌, take}
use Rattle.parikh_flow.specs.Building.{AreAdded}
use Rattle.parikh_flow.specs.Rows.{terms_by, edge_balance}
use Rattle.parikh_flow.proofs.balances.push_edges.Given as goal

abbrev pub invariant-loop-edge : goal.invariant-loop-edge
invariant-loop-edge l = record {
  next : l.unknown ≡ l.base + l.edge-index;
  added : AreAdded (λ s. terms_by (edge_balance s) l.base (take l.edge-index l.edges)) l.unknown l.initial.forms.items l.forms.items;
}
