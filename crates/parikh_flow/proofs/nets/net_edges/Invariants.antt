use Rattle.std.proofs.Common.{◌≡◌, ◌+◌, take}
use Rattle.parikh_flow.specs.Nets.{net_edges}
use Rattle.parikh_flow.proofs.nets.net_edges.Given as goal

abbrev pub invariant-loop-edge : goal.invariant-loop-edge
invariant-loop-edge l = record {
  next : l.unknown ≡ l.base + l.edge-index;
  list : l.list ≡ net_edges l.base (take l.edge-index l.edges);
}
