use Rattle.std.proofs.Common.{◌∙◌, refl, ap, sym, length, arith}
use Rattle.machine_core.specs.CostLaws.{add_costs-length}
use Rattle.machine_meet.specs.Builds.{after_end}
use Rattle.machine_meet.proofs.PushLemmas.{pushed-none, pushed-more, pushed-all}
use Rattle.machine_meet.proofs.concats.ends_after.Goals as goal

pub add-requires : goal.add-requires
add-requires c =
    let f = c.requires.fits c.last-item.result (c.loop-last.last-index, c.loop-last-test.true, sym c.last-item.is) in
    record { same = f.same; fits = f.fits }

pub add_end-requires : goal.add_end-requires
add_end-requires c =
    let f = c.requires.fits c.last-item.result (c.loop-last.last-index, c.loop-last-test.true, sym c.last-item.is) in
    let at = c.requires.at in
    let same = c.loop-last.invariant.states in
    record {
      at = omega arith;
      cost = ap length c.in_ok-cost.ensures ∙ add_costs-length c.args.end.now.cost c.last-item.result c.args.whole.now.registers c.requires.cost (sym f.same ∙ c.requires.cost) ∙ sym c.loop-last.invariant.registers;
    }

pub loop-last-init : goal.loop-last-init
loop-last-init c = record {
  states = refl;
  registers = refl;
  edges = refl;
  ends = pushed-none (after_end c.args.end.now) c.args.costs.now c.args.costs.now c.args.whole.now.ends;
}

pub loop-last-preserved : goal.loop-last-preserved
loop-last-preserved c =
    let inv = c.loop-last.invariant in
    let added = c.in_ok-add_end.ensures in
    record {
      states = added.states ∙ inv.states;
      registers = added.registers ∙ inv.registers;
      edges = added.edges ∙ inv.edges;
      ends = pushed-more (after_end c.args.end.now) c.args.costs.now c.args.costs.now c.args.whole.now.ends c.loop-last.whole.ends c.add_end.new.self.ends
          c.loop-last.last-index c.last-item.result refl c.loop-last-test.true c.last-item.is inv.ends (rw c.in_ok-cost.ensures at added.ok);
    }

pub returns-clause-states : goal.returns-clause-states
returns-clause-states c = c.loop-last.invariant.states

pub returns-clause-registers : goal.returns-clause-registers
returns-clause-registers c = c.loop-last.invariant.registers

pub returns-clause-edges : goal.returns-clause-edges
returns-clause-edges c = c.loop-last.invariant.edges

pub returns-clause-ends : goal.returns-clause-ends
returns-clause-ends c = pushed-all (after_end c.args.end.now) c.args.costs.now c.args.costs.now c.args.whole.now.ends c.loop-last.whole.ends
    c.loop-last.last-index refl c.loop-last-test.false c.loop-last.invariant.ends
