use Rattle.std.proofs.Common.{◌≡◌, length, get_or, sym, ap, ◌∙◌, subst, arith}
use Rattle.machine_meet.specs.Products.{AreStates, MeetSteps, meet_width}
use Rattle.machine_core.specs.Costs.{sum_costs}
use Rattle.machine_meet.proofs.PlaceLemmas.{all-got, count-push}
use Rattle.machine_meet.proofs.SplitLemmas.{run-goes, run-lengths, run-step, read-step, rows-start, rows-push, row-is, AreRows}
use Rattle.machine_meet.specs.Splits.{IsSplitRow}
use Rattle.machine_meet.proofs.split.pick_steps.Goals as goal

pub pick_step-requires : goal.pick_step-requires
pick_step-requires g c =
    let goes = run-goes g.P.Machine.is_state g.P.Machine.ends_with g.P.Machine.steps_to g.P.Machine.first g.P.Machine.width g.P.Machine.top g.met.P.Machine.first_is_state g.met.P.Machine.step_is_state g.met.P.Machine.step_cost
    g.met.P.Machine.end_cost (meet_width g.P.Machine.width c.args.meet.now.parts.now) c.args.meet.now.parts.now c.args.meet.now.agree c.args.run.now c.requires in
    let reads = read-step g.P.Machine.ends_with g.P.Machine.steps_to g.P.Machine.first (meet_width g.P.Machine.width c.args.meet.now.parts.now) c.args.meet.now.parts.now c.args.run.now c.requires
    c.as_slice-states.result.now c.as_slice-word.result.now c.as_slice-cost-items.result.now c.loop-i.i c.index-states-i.result c.as_slice-from.result.now c.index-states-i-in-loop-i.result c.as_slice-to.result.now c.cost-item.result
    c.as_slice-states.ensures c.as_slice-word.ensures c.as_slice-cost-items.ensures c.loop-i-test.true c.index-states-i.is c.as_slice-from.ensures c.index-states-i-in-loop-i.is c.as_slice-to.ensures c.cost-item.is in
    let wide = all-got (λ k. length k ≡ meet_width g.P.Machine.width c.args.meet.now.parts.now) c.args.run.now.costs goes.costs c.loop-i.i c.cost-item.result reads.cost_is in
    let step = run-step g.P.Machine.ends_with g.P.Machine.steps_to g.P.Machine.first (meet_width g.P.Machine.width c.args.meet.now.parts.now) c.args.meet.now.parts.now c.args.run.now c.requires
    c.loop-i.i c.as_slice-from.result.now c.as_slice-to.result.now (get_or c.as_slice-word.result.now c.loop-i.i 0) c.cost-item.result reads in
    record {
      states = all-got (AreStates g.P.Machine.is_state c.args.meet.now.parts.now) c.args.run.now.states goes.states c.loop-i.i c.as_slice-from.result.now reads.from_is;
      width = λ p k. c.args.meet.now.agree p k ∙ sym wide;
      step = subst (λ n. MeetSteps g.P.Machine.steps_to n c.args.meet.now.parts.now c.as_slice-from.result.now (get_or c.as_slice-word.result.now c.loop-i.i 0) c.cost-item.result c.as_slice-to.result.now) (sym wide) step;
    }

pub bounds-states-i : goal.bounds-states-i
bounds-states-i g c =
    let n = run-lengths g.P.Machine.ends_with g.P.Machine.steps_to g.P.Machine.first (meet_width g.P.Machine.width c.args.meet.now.parts.now) c.args.meet.now.parts.now c.args.run.now c.requires in
    let first = n.0 in
    let second = n.1 in
    let states = ap length c.as_slice-states.ensures in
    let costs = ap length c.as_slice-cost-items.ensures in
    let lt = c.loop-i-test.true in
    omega arith

pub bounds-states-i-in-loop-i : goal.bounds-states-i-in-loop-i
bounds-states-i-in-loop-i g c =
    let n = run-lengths g.P.Machine.ends_with g.P.Machine.steps_to g.P.Machine.first (meet_width g.P.Machine.width c.args.meet.now.parts.now) c.args.meet.now.parts.now c.args.run.now c.requires in
    let first = n.0 in
    let second = n.1 in
    let states = ap length c.as_slice-states.ensures in
    let costs = ap length c.as_slice-cost-items.ensures in
    let lt = c.loop-i-test.true in
    omega arith

pub bounds-word-i : goal.bounds-word-i
bounds-word-i g c =
    let n = run-lengths g.P.Machine.ends_with g.P.Machine.steps_to g.P.Machine.first (meet_width g.P.Machine.width c.args.meet.now.parts.now) c.args.meet.now.parts.now c.args.run.now c.requires in
    let second = n.1 in
    let word = ap length c.as_slice-word.ensures in
    let costs = ap length c.as_slice-cost-items.ensures in
    let lt = c.loop-i-test.true in
    omega arith

pub loop-i-init : goal.loop-i-init
loop-i-init g c = record {
  count = ap length c.new-rows.ensures;
  rows = rw c.new-rows.ensures (rows-start g.P.Machine.steps_to (meet_width g.P.Machine.width c.args.meet.now.parts.now) c.args.meet.now.parts.now c.args.run.now);
}

pub loop-i-preserved : goal.loop-i-preserved
loop-i-preserved g c =
    let goes = run-goes g.P.Machine.is_state g.P.Machine.ends_with g.P.Machine.steps_to g.P.Machine.first g.P.Machine.width g.P.Machine.top g.met.P.Machine.first_is_state g.met.P.Machine.step_is_state g.met.P.Machine.step_cost
    g.met.P.Machine.end_cost (meet_width g.P.Machine.width c.args.meet.now.parts.now) c.args.meet.now.parts.now c.args.meet.now.agree c.args.run.now c.requires in
    let reads = read-step g.P.Machine.ends_with g.P.Machine.steps_to g.P.Machine.first (meet_width g.P.Machine.width c.args.meet.now.parts.now) c.args.meet.now.parts.now c.args.run.now c.requires
    c.as_slice-states.result.now c.as_slice-word.result.now c.as_slice-cost-items.result.now c.loop-i.i c.index-states-i.result c.as_slice-from.result.now c.index-states-i-in-loop-i.result c.as_slice-to.result.now c.cost-item.result
    c.as_slice-states.ensures c.as_slice-word.ensures c.as_slice-cost-items.ensures c.loop-i-test.true c.index-states-i.is c.as_slice-from.ensures c.index-states-i-in-loop-i.is c.as_slice-to.ensures c.cost-item.is in
    let wide = all-got (λ k. length k ≡ meet_width g.P.Machine.width c.args.meet.now.parts.now) c.args.run.now.costs goes.costs c.loop-i.i c.cost-item.result reads.cost_is in
    let sum = subst (λ n. sum_costs n c.in_ok-pick_step.field-0 ≡ c.cost-item.result) wide c.in_ok-pick_step.ensures.sum in
    let row = row-is g.P.Machine.steps_to (meet_width g.P.Machine.width c.args.meet.now.parts.now) c.args.meet.now.parts.now c.args.run.now
    c.loop-i.i c.as_slice-from.result.now c.as_slice-to.result.now (get_or c.as_slice-word.result.now c.loop-i.i 0) c.cost-item.result c.in_ok-pick_step.field-0 reads c.in_ok-pick_step.ensures.steps sum in
    let at = subst (λ n. IsSplitRow g.P.Machine.steps_to (meet_width g.P.Machine.width c.args.meet.now.parts.now) c.args.meet.now.parts.now c.args.run.now n c.in_ok-pick_step.field-0) (sym c.loop-i.invariant.count) row in
    record {
      count = count-push c.loop-i.rows c.push.new.self c.in_ok-pick_step.field-0 c.loop-i.i c.loop-i.invariant.count c.in_ok-push.ensures.ok;
      rows = subst (AreRows g.P.Machine.steps_to (meet_width g.P.Machine.width c.args.meet.now.parts.now) c.args.meet.now.parts.now c.args.run.now) (sym c.in_ok-push.ensures.ok)
          (rows-push g.P.Machine.steps_to (meet_width g.P.Machine.width c.args.meet.now.parts.now) c.args.meet.now.parts.now c.args.run.now c.loop-i.rows c.in_ok-pick_step.field-0 c.loop-i.invariant.rows at);
    }

pub returns : goal.returns
returns g c =
    let low = c.loop-i-test.false in
    let high = c.loop-i.auto.i-end in
    let costs = ap length c.as_slice-cost-items.ensures in
    let count = c.loop-i.invariant.count in
    record { count = omega arith; rows = c.loop-i.invariant.rows }
