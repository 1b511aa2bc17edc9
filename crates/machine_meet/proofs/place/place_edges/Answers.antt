use Rattle.std.proofs.Common.{◌∙◌, refl, ap, sym, subst, length, arith}
use Rattle.sv_list.specs.Lists.{read-contained}
use Rattle.sv_word.specs.Ranges.{IsInhabited}
use Rattle.machine_meet.specs.Builds.{placed_edge}
use Rattle.machine_meet.proofs.PushLemmas.{pushed-none, pushed-more, pushed-all}
use Rattle.machine_meet.proofs.place.place_edges.Goals as goal

pub overflow_add-offset : goal.overflow_add-offset
overflow_add-offset c =
    let e = c.args.part.now.formed.edge c.edge-item.result (read-contained c.args.part.now.edges c.edges-edge-items.result.now c.loop-edge.edge-index c.edge-item.result c.edges-edge-items.ensures c.loop-edge-test.true c.edge-item.is) in
    let from = e.from in
    let room = c.requires.room in
    let fits = c.requires.fits in
    omega arith

pub overflow_add-offset-in-loop-edge : goal.overflow_add-offset-in-loop-edge
overflow_add-offset-in-loop-edge c =
    let e = c.args.part.now.formed.edge c.edge-item.result (read-contained c.args.part.now.edges c.edges-edge-items.result.now c.loop-edge.edge-index c.edge-item.result c.edges-edge-items.ensures c.loop-edge-test.true c.edge-item.is) in
    let to = e.to in
    let room = c.requires.room in
    let fits = c.requires.fits in
    omega arith

pub add_edge-requires : goal.add_edge-requires
add_edge-requires c =
    let e = c.args.part.now.formed.edge c.edge-item.result (read-contained c.args.part.now.edges c.edges-edge-items.result.now c.loop-edge.edge-index c.edge-item.result c.edges-edge-items.ensures c.loop-edge-test.true c.edge-item.is) in
    let from = e.from in
    let to = e.to in
    let room = c.requires.room in
    let same = c.loop-edge.invariant.states in
    record {
      from = omega arith;
      to = omega arith;
      cost = ap length c.in_ok-cost.ensures ∙ e.cost ∙ c.requires.registers ∙ sym c.loop-edge.invariant.registers;
      on = subst IsInhabited (sym c.in_ok-on.ensures) e.on;
    }

pub loop-edge-init : goal.loop-edge-init
loop-edge-init c = record {
  states = refl;
  registers = refl;
  ends = refl;
  edges = pushed-none (placed_edge c.args.offset) c.args.part.now.edges c.args.part.now.edges c.args.whole.now.edges;
}

pub loop-edge-preserved : goal.loop-edge-preserved
loop-edge-preserved c =
    let inv = c.loop-edge.invariant in
    let added = c.in_ok-add_edge.ensures in
    record {
      states = added.states ∙ inv.states;
      registers = added.registers ∙ inv.registers;
      ends = added.ends ∙ inv.ends;
      edges = pushed-more (placed_edge c.args.offset) c.args.part.now.edges c.edges-edge-items.result.now c.args.whole.now.edges c.loop-edge.whole.edges c.add_edge.new.self.edges
          c.loop-edge.edge-index c.edge-item.result c.edges-edge-items.ensures c.loop-edge-test.true c.edge-item.is inv.edges (rw (c.in_ok-on.ensures, c.in_ok-cost.ensures) at added.ok);
    }

pub returns-clause-states : goal.returns-clause-states
returns-clause-states c = c.loop-edge.invariant.states

pub returns-clause-registers : goal.returns-clause-registers
returns-clause-registers c = c.loop-edge.invariant.registers

pub returns-clause-ends : goal.returns-clause-ends
returns-clause-ends c = c.loop-edge.invariant.ends

pub returns-clause-edges : goal.returns-clause-edges
returns-clause-edges c = pushed-all (placed_edge c.args.offset) c.args.part.now.edges c.edges-edge-items.result.now c.args.whole.now.edges c.loop-edge.whole.edges
    c.loop-edge.edge-index c.edges-edge-items.ensures c.loop-edge-test.false c.loop-edge.invariant.edges
