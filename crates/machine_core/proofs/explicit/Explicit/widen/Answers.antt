use Rattle.std.proofs.Common.{◌∙◌, ◌++◌, ◌∷◌, [], ap, map}
use Rattle.sv_list.specs.Lists.{read-contained}
use Rattle.machine_core.specs.Edges.{wide_edge, wide_end}
use Rattle.machine_core.proofs.PushLemmas.{mapped-more}
use Rattle.machine_core.proofs.WideLemmas.{wide-runs, wide-top, took-all}
use Rattle.machine_core.proofs.explicit.Explicit.widen.Goals as goal

pub add_free_edge-requires-clause-from : goal.add_free_edge-requires-clause-from
add_free_edge-requires-clause-from c =
    rw c.loop-edge.invariant.states (c.args.self.now.formed.edge c.edge-item.result (read-contained c.args.self.now.edges c.edges-edge-items.result.now c.loop-edge.edge-index c.edge-item.result c.edges-edge-items.ensures c.loop-edge-test.true c.edge-item.is)).from

pub add_free_edge-requires-clause-to : goal.add_free_edge-requires-clause-to
add_free_edge-requires-clause-to c =
    rw c.loop-edge.invariant.states (c.args.self.now.formed.edge c.edge-item.result (read-contained c.args.self.now.edges c.edges-edge-items.result.now c.loop-edge.edge-index c.edge-item.result c.edges-edge-items.ensures c.loop-edge-test.true c.edge-item.is)).to

pub add_free_end-requires : goal.add_free_end-requires
add_free_end-requires c =
    rw c.loop-end.invariant.states (c.args.self.now.formed.ending c.end-item.result (read-contained c.args.self.now.ends c.finals-end-items.result.now c.loop-end.end-index c.end-item.result c.finals-end-items.ensures c.loop-end-test.true c.end-item.is)).at

pub returns-clause-runs : goal.returns-clause-runs
returns-clause-runs c =
    let ends = c.loop-end.invariant.ends ∙ ap (map (wide_end c.args.registers)) (took-all c.args.self.now.ends c.finals-end-items.result.now c.loop-end.end-index c.finals-end-items.ensures c.loop-end-test.false) in
    rw (c.loop-end.invariant.edges, ends) (wide-runs c.args.self.now.states c.args.registers c.args.self.now.edges c.args.self.now.ends (rw c.requires at c.args.self.now.formed))

pub returns-clause-top : goal.returns-clause-top
returns-clause-top c =
    let ends = c.loop-end.invariant.ends ∙ ap (map (wide_end c.args.registers)) (took-all c.args.self.now.ends c.finals-end-items.result.now c.loop-end.end-index c.finals-end-items.ensures c.loop-end-test.false) in
    rw (c.loop-end.invariant.edges, ends) (wide-top c.args.registers c.args.self.now.edges c.args.self.now.ends)

pub add_free_edge-requires-clause-on : goal.add_free_edge-requires-clause-on
add_free_edge-requires-clause-on c =
    (c.args.self.now.formed.edge c.edge-item.result (read-contained c.args.self.now.edges c.edges-edge-items.result.now c.loop-edge.edge-index c.edge-item.result c.edges-edge-items.ensures c.loop-edge-test.true c.edge-item.is)).on

pub loop-edge-preserved : goal.loop-edge-preserved
loop-edge-preserved c =
    let inv = c.loop-edge.invariant in
    let added = c.in_ok-add_free_edge.ensures in
    record {
      states = added.states ∙ inv.states;
      registers = added.registers ∙ inv.registers;
      edges = added.ok ∙ ap (λ n. c.loop-edge.wide.edges ++ wide_edge n c.edge-item.result ∷ []) inv.registers ∙ ap (λ es. es ++ wide_edge c.args.registers c.edge-item.result ∷ []) inv.edges
          ∙ mapped-more (wide_edge c.args.registers) c.args.self.now.edges c.edges-edge-items.result.now c.loop-edge.edge-index c.edge-item.result c.edges-edge-items.ensures c.loop-edge-test.true c.edge-item.is;
      ends = added.ends ∙ inv.ends;
    }

pub loop-end-init : goal.loop-end-init
loop-end-init c =
    let inv = c.loop-edge.invariant in
    record {
      states = inv.states;
      registers = inv.registers;
      edges = inv.edges ∙ ap (map (wide_edge c.args.registers)) (took-all c.args.self.now.edges c.edges-edge-items.result.now c.loop-edge.edge-index c.edges-edge-items.ensures c.loop-edge-test.false);
      ends = inv.ends;
    }

pub loop-end-preserved : goal.loop-end-preserved
loop-end-preserved c =
    let inv = c.loop-end.invariant in
    let added = c.in_ok-add_free_end.ensures in
    record {
      states = added.states ∙ inv.states;
      registers = added.registers ∙ inv.registers;
      edges = added.edges ∙ inv.edges;
      ends = added.ok ∙ ap (λ n. c.loop-end.wide.ends ++ wide_end n c.end-item.result ∷ []) inv.registers ∙ ap (λ es. es ++ wide_end c.args.registers c.end-item.result ∷ []) inv.ends
          ∙ mapped-more (wide_end c.args.registers) c.args.self.now.ends c.finals-end-items.result.now c.loop-end.end-index c.end-item.result c.finals-end-items.ensures c.loop-end-test.true c.end-item.is;
    }

pub returns-clause-states : goal.returns-clause-states
returns-clause-states c = c.loop-end.invariant.states

pub returns-clause-registers : goal.returns-clause-registers
returns-clause-registers c = c.loop-end.invariant.registers

pub returns-clause-edges : goal.returns-clause-edges
returns-clause-edges c = c.loop-end.invariant.edges

pub returns-clause-ends : goal.returns-clause-ends
returns-clause-ends c = c.loop-end.invariant.ends ∙ ap (map (wide_end c.args.registers)) (took-all c.args.self.now.ends c.finals-end-items.result.now c.loop-end.end-index c.finals-end-items.ensures c.loop-end-test.false)
