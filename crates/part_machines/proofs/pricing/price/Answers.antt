use Rattle.std.proofs.Common.{◌∙◌, ◌++◌, ◌∷◌, [], ap, sym, map, length}
use Rattle.sv_list.specs.Lists.{read-contained}
use Rattle.machine_core.specs.Edges.{wide_end}
use Rattle.machine_core.proofs.WideLemmas.{took-all}
use Rattle.part_machines.specs.Parts.{priced_edge}
use Rattle.part_machines.proofs.PriceLemmas.{is-priced, made-more}
use Rattle.part_machines.proofs.pricing.price.Goals as goal

pub add_priced-requires-clause-from : goal.add_priced-requires-clause-from
add_priced-requires-clause-from c =
    rw c.loop-edge.invariant.states (c.args.machine.now.formed.edge c.edge-item.result (read-contained c.args.machine.now.edges c.edges-edge-items.result.now c.loop-edge.edge-index c.edge-item.result c.edges-edge-items.ensures c.loop-edge-test.true c.edge-item.is)).from

pub add_priced-requires-clause-to : goal.add_priced-requires-clause-to
add_priced-requires-clause-to c =
    rw c.loop-edge.invariant.states (c.args.machine.now.formed.edge c.edge-item.result (read-contained c.args.machine.now.edges c.edges-edge-items.result.now c.loop-edge.edge-index c.edge-item.result c.edges-edge-items.ensures c.loop-edge-test.true c.edge-item.is)).to

pub add_free_end-requires : goal.add_free_end-requires
add_free_end-requires c =
    rw c.loop-end.invariant.states (c.args.machine.now.formed.ending c.end-item.result (read-contained c.args.machine.now.ends c.finals-end-items.result.now c.loop-end.end-index c.end-item.result c.finals-end-items.ensures c.loop-end-test.true c.end-item.is)).at

pub returns : goal.returns
returns c =
    let width = ap length c.as_slice-registers.ensures in
    let ends = c.loop-end.invariant.ends ∙ ap (map (wide_end (length c.as_slice-registers.result.now))) (took-all c.args.machine.now.ends c.finals-end-items.result.now c.loop-end.end-index c.finals-end-items.ensures c.loop-end-test.false) in
    is-priced c.args.each.now c.args.machine.now c.loop-end.priced c.requires (c.loop-end.invariant.registers ∙ width) c.loop-end.invariant.states c.loop-end.invariant.edges (ends ∙ ap (λ n. map (wide_end n) c.args.machine.now.ends) width)

pub add_priced-requires-clause-on : goal.add_priced-requires-clause-on
add_priced-requires-clause-on c =
    (c.args.machine.now.formed.edge c.edge-item.result (read-contained c.args.machine.now.edges c.edges-edge-items.result.now c.loop-edge.edge-index c.edge-item.result c.edges-edge-items.ensures c.loop-edge-test.true c.edge-item.is)).on

pub add_priced-requires-clause-each : goal.add_priced-requires-clause-each
add_priced-requires-clause-each c = sym (c.loop-edge.invariant.registers ∙ ap length c.as_slice-registers.ensures)

pub loop-edge-init : goal.loop-edge-init
loop-edge-init c = record {
  states = c.in_ok-priced.ensures.states ∙ c.states.ensures;
  registers = c.in_ok-priced.ensures.registers;
  edges = c.in_ok-priced.ensures.edges;
  ends = c.in_ok-priced.ensures.ends;
}

pub loop-edge-preserved : goal.loop-edge-preserved
loop-edge-preserved c =
    let inv = c.loop-edge.invariant in
    let added = c.in_ok-add_priced.ensures in
    record {
      states = added.states ∙ inv.states;
      registers = added.registers ∙ inv.registers;
      edges = made-more (priced_edge c.args.each.now) c.args.machine.now.edges c.edges-edge-items.result.now c.loop-edge.priced.edges c.add_priced.new.priced.edges c.loop-edge.edge-index c.edge-item.result
          c.edges-edge-items.ensures c.loop-edge-test.true c.edge-item.is inv.edges added.ok;
      ends = added.ends ∙ inv.ends;
    }

pub loop-end-init : goal.loop-end-init
loop-end-init c =
    let inv = c.loop-edge.invariant in
    record {
      states = inv.states;
      registers = inv.registers;
      edges = inv.edges ∙ ap (map (priced_edge c.args.each.now)) (took-all c.args.machine.now.edges c.edges-edge-items.result.now c.loop-edge.edge-index c.edges-edge-items.ensures c.loop-edge-test.false);
      ends = inv.ends;
    }

pub loop-end-preserved : goal.loop-end-preserved
loop-end-preserved c =
    let inv = c.loop-end.invariant in
    let added = c.in_ok-add_free_end.ensures in
    let registers = length c.as_slice-registers.result.now in
    record {
      states = added.states ∙ inv.states;
      registers = added.registers ∙ inv.registers;
      edges = added.edges ∙ inv.edges;
      ends = made-more (wide_end registers) c.args.machine.now.ends c.finals-end-items.result.now c.loop-end.priced.ends c.add_free_end.new.self.ends c.loop-end.end-index c.end-item.result
          c.finals-end-items.ensures c.loop-end-test.true c.end-item.is inv.ends (added.ok ∙ ap (λ n. c.loop-end.priced.ends ++ wide_end n c.end-item.result ∷ []) inv.registers);
    }
