use Rattle.std.proofs.Common.{◌∙◌, ◌++◌, ◌∷◌, [], take, ap, sym, arith}
use Rattle.parikh_flow.specs.Nets.{net_edge, net_edges}
use Rattle.parikh_flow.proofs.FormLemmas.{net-more}
use Rattle.parikh_flow.proofs.nets.net_edges.Goals as goal

pub loop-edge-preserved : goal.loop-edge-preserved
loop-edge-preserved c = record {
  next = (let e = c.loop-edge.invariant.next in omega arith);
  list = c.in_ok-push.ensures.ok ∙ ap (λ l. l ++ net_edge c.loop-edge.unknown c.edge-item.result ∷ []) c.loop-edge.invariant.list
      ∙ ap (λ n. net_edges c.args.base (take c.loop-edge.edge-index c.args.edges.now) ++ net_edge n c.edge-item.result ∷ []) c.loop-edge.invariant.next
      ∙ sym (net-more c.args.base c.args.edges.now c.loop-edge.edge-index c.edge-item.result c.loop-edge-test.true c.edge-item.is);
}
