use Rattle.std.proofs.Common.{◌∙◌, refl, ap, sym, subst, length, arith}
use Rattle.sv_word.specs.Ranges.{IsInhabited}
use Rattle.machine_meet.specs.Builds.{leaving_edge}
use Rattle.machine_meet.proofs.PushLemmas.{pushed-none, pushed-more, pushed-all}
use Rattle.machine_meet.proofs.place.leave.Goals as goal

pub overflow_add-offset : goal.overflow_add-offset
overflow_add-offset c =
    let room = c.requires.room c.step-item.result (c.loop-step.step-index, c.loop-step-test.true, sym c.step-item.is) in
    let fits = c.requires.fits in
    omega arith

pub add_edge-requires : goal.add_edge-requires
add_edge-requires c =
    let room = c.requires.room c.step-item.result (c.loop-step.step-index, c.loop-step-test.true, sym c.step-item.is) in
    let m = c.requires.moves c.step-item.result (c.loop-step.step-index, c.loop-step-test.true, sym c.step-item.is) in
    let from = c.requires.from in
    let same = c.loop-step.invariant.states in
    record {
      from = omega arith;
      to = omega arith;
      cost = ap length c.in_ok-cost.ensures ∙ m.cost ∙ sym c.loop-step.invariant.registers;
      on = subst IsInhabited (sym c.in_ok-on.ensures) m.on;
    }

pub loop-step-init : goal.loop-step-init
loop-step-init c = record {
  states = refl;
  registers = refl;
  ends = refl;
  edges = pushed-none (leaving_edge c.args.from c.args.offset) c.args.moves.now c.args.moves.now c.args.whole.now.edges;
}

pub loop-step-preserved : goal.loop-step-preserved
loop-step-preserved c =
    let inv = c.loop-step.invariant in
    let added = c.in_ok-add_edge.ensures in
    record {
      states = added.states ∙ inv.states;
      registers = added.registers ∙ inv.registers;
      ends = added.ends ∙ inv.ends;
      edges = pushed-more (leaving_edge c.args.from c.args.offset) c.args.moves.now c.args.moves.now c.args.whole.now.edges c.loop-step.whole.edges c.add_edge.new.self.edges
          c.loop-step.step-index c.step-item.result refl c.loop-step-test.true c.step-item.is inv.edges (rw (c.in_ok-on.ensures, c.in_ok-cost.ensures) at added.ok);
    }

pub returns-clause-states : goal.returns-clause-states
returns-clause-states c = c.loop-step.invariant.states

pub returns-clause-registers : goal.returns-clause-registers
returns-clause-registers c = c.loop-step.invariant.registers

pub returns-clause-ends : goal.returns-clause-ends
returns-clause-ends c = c.loop-step.invariant.ends

pub returns-clause-edges : goal.returns-clause-edges
returns-clause-edges c = pushed-all (leaving_edge c.args.from c.args.offset) c.args.moves.now c.args.moves.now c.args.whole.now.edges c.loop-step.whole.edges
    c.loop-step.step-index refl c.loop-step-test.false c.loop-step.invariant.edges
