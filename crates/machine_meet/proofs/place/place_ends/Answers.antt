use Rattle.std.proofs.Common.{◌∙◌, refl, ap, sym, length, arith}
use Rattle.sv_list.specs.Lists.{read-contained}
use Rattle.machine_meet.specs.Builds.{placed_end}
use Rattle.machine_meet.proofs.PushLemmas.{pushed-none, pushed-more, pushed-all}
use Rattle.machine_meet.proofs.place.place_ends.Goals as goal

pub overflow_add-offset : goal.overflow_add-offset
overflow_add-offset c =
    let e = c.args.part.now.formed.ending c.end-item.result (read-contained c.args.part.now.ends c.finals-end-items.result.now c.loop-end.end-index c.end-item.result c.finals-end-items.ensures c.loop-end-test.true c.end-item.is) in
    let at = e.at in
    let room = c.requires.room in
    let fits = c.requires.fits in
    omega arith

pub add_end-requires : goal.add_end-requires
add_end-requires c =
    let e = c.args.part.now.formed.ending c.end-item.result (read-contained c.args.part.now.ends c.finals-end-items.result.now c.loop-end.end-index c.end-item.result c.finals-end-items.ensures c.loop-end-test.true c.end-item.is) in
    let at = e.at in
    let room = c.requires.room in
    let same = c.loop-end.invariant.states in
    record {
      at = omega arith;
      cost = ap length c.in_ok-cost.ensures ∙ e.cost ∙ c.requires.registers ∙ sym c.loop-end.invariant.registers;
    }

pub loop-end-init : goal.loop-end-init
loop-end-init c = record {
  states = refl;
  registers = refl;
  edges = refl;
  ends = pushed-none (placed_end c.args.offset) c.args.part.now.ends c.args.part.now.ends c.args.whole.now.ends;
}

pub loop-end-preserved : goal.loop-end-preserved
loop-end-preserved c =
    let inv = c.loop-end.invariant in
    let added = c.in_ok-add_end.ensures in
    record {
      states = added.states ∙ inv.states;
      registers = added.registers ∙ inv.registers;
      edges = added.edges ∙ inv.edges;
      ends = pushed-more (placed_end c.args.offset) c.args.part.now.ends c.finals-end-items.result.now c.args.whole.now.ends c.loop-end.whole.ends c.add_end.new.self.ends
          c.loop-end.end-index c.end-item.result c.finals-end-items.ensures c.loop-end-test.true c.end-item.is inv.ends (rw c.in_ok-cost.ensures at added.ok);
    }

pub returns-clause-states : goal.returns-clause-states
returns-clause-states c = c.loop-end.invariant.states

pub returns-clause-registers : goal.returns-clause-registers
returns-clause-registers c = c.loop-end.invariant.registers

pub returns-clause-edges : goal.returns-clause-edges
returns-clause-edges c = c.loop-end.invariant.edges

pub returns-clause-ends : goal.returns-clause-ends
returns-clause-ends c = pushed-all (placed_end c.args.offset) c.args.part.now.ends c.finals-end-items.result.now c.args.whole.now.ends c.loop-end.whole.ends
    c.loop-end.end-index c.finals-end-items.ensures c.loop-end-test.false c.loop-end.invariant.ends
