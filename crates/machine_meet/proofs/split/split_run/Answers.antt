use Rattle.std.proofs.Common.{◌≡◌, ◌<◌, length, sym, ap, ◌∙◌, subst, arith, refl, slice_get, Some}
use Rattle.std.proofs.lemmas.List.{take_all}
use Rattle.sv_list.specs.Lists.{some-once}
use Rattle.machine_meet.specs.Products.{AreStates, MeetEnds, meet_width}
use Rattle.machine_core.specs.Costs.{sum_costs}
use Rattle.machine_meet.specs.Splits.{ArePartRuns, AreSteps, IsColumn, as_step}
use Rattle.machine_meet.proofs.ProductLemmas.{states-length}
use Rattle.machine_meet.proofs.PlaceLemmas.{all-got, all-each, beside}
use Rattle.machine_meet.proofs.SplitLemmas.{run-goes, run-lengths, run-end, read-end, part-runs, runs-next, totals, totals-at, totals-next, all-add-up}
use Rattle.machine_meet.proofs.split.split_run.Goals as goal

pub part_run-requires : goal.part_run-requires
part_run-requires g c =
    let goes = run-goes g.P.Machine.is_state g.P.Machine.ends_with g.P.Machine.steps_to g.P.Machine.first g.P.Machine.width g.P.Machine.top g.met.P.Machine.first_is_state g.met.P.Machine.step_is_state g.met.P.Machine.step_cost
    g.met.P.Machine.end_cost (meet_width g.P.Machine.width c.args.meet.now.parts.now) c.args.meet.now.parts.now c.args.meet.now.agree c.args.run.now c.requires in
    let lt = c.loop-place-test.true in
    let many = c.in_ok-ends.ensures.steps.count in
    let ends = ap length c.as_slice-in-loop-place-2.ensures in
    record {
      states = all-each (λ at. c.loop-place.place < length at) c.args.run.now.states (λ i at e.
          subst (λ n. c.loop-place.place < n) (sym (states-length g.P.Machine.is_state c.args.meet.now.parts.now at (all-got (AreStates g.P.Machine.is_state c.args.meet.now.parts.now) c.args.run.now.states goes.states i at e))) lt);
      rows = all-each (λ row. c.loop-place.place < length row) c.as_slice-in-loop-place.result.now (λ i row e.
          subst (λ n. c.loop-place.place < n) (sym (c.in_ok-rows.ensures.rows i row (subst (λ l. slice_get l i ≡ Some row) c.as_slice-in-loop-place.ensures e)).count) lt);
      ends = omega arith;
    }

pub pick_end-requires : goal.pick_end-requires
pick_end-requires g c =
    let goes = run-goes g.P.Machine.is_state g.P.Machine.ends_with g.P.Machine.steps_to g.P.Machine.first g.P.Machine.width g.P.Machine.top g.met.P.Machine.first_is_state g.met.P.Machine.step_is_state g.met.P.Machine.step_cost
    g.met.P.Machine.end_cost (meet_width g.P.Machine.width c.args.meet.now.parts.now) c.args.meet.now.parts.now c.args.meet.now.agree c.args.run.now c.requires in
    let at = read-end g.P.Machine.ends_with g.P.Machine.steps_to g.P.Machine.first (meet_width g.P.Machine.width c.args.meet.now.parts.now) c.args.meet.now.parts.now c.args.run.now c.requires c.as_slice.result.now c.len.result c.index-as_slice-len.result c.as_slice-at.result.now
    c.as_slice.ensures c.len.ensures c.index-as_slice-len.is c.as_slice-at.ensures in
    let end = run-end g.P.Machine.ends_with g.P.Machine.steps_to g.P.Machine.first (meet_width g.P.Machine.width c.args.meet.now.parts.now) c.args.meet.now.parts.now c.args.run.now c.requires c.as_slice-at.result.now at in
    record {
      states = all-got (AreStates g.P.Machine.is_state c.args.meet.now.parts.now) c.args.run.now.states goes.states _ c.as_slice-at.result.now at;
      width = λ p k. c.args.meet.now.agree p k ∙ sym goes.last;
      end = subst (λ n. MeetEnds g.P.Machine.ends_with n c.args.meet.now.parts.now c.as_slice-at.result.now c.args.run.now.last) (sym goes.last) end;
    }

pub loop-place-init : goal.loop-place-init
loop-place-init g c = rw c.new-runs.ensures record { runs = tt; costs = refl }

pub loop-place-preserved : goal.loop-place-preserved
loop-place-preserved g c =
    let part = c.in_ok-part_run.field-0 in
    let facts = c.in_ok-part_run.ensures in
    let many = c.in_ok-ends.ensures.steps.count in
    let at = read-end g.P.Machine.ends_with g.P.Machine.steps_to g.P.Machine.first (meet_width g.P.Machine.width c.args.meet.now.parts.now) c.args.meet.now.parts.now c.args.run.now c.requires c.as_slice.result.now c.len.result c.index-as_slice-len.result c.as_slice-at.result.now
    c.as_slice.ensures c.len.ensures c.index-as_slice-len.is c.as_slice-at.ensures in
    let last = subst (λ l. slice_get l c.loop-place.place ≡ Some part.last) c.as_slice-in-loop-place-2.ensures facts.last in
    let column = subst (λ l. IsColumn c.loop-place.place l part.costs) c.as_slice-in-loop-place.ensures facts.costs in
    let p = beside c.in_ok-ends.ends c.args.meet.now.parts.now c.loop-place.place part.last (sym many) last in
    let is = part-runs g.P.Machine.ends_with g.P.Machine.steps_to g.P.Machine.first (meet_width g.P.Machine.width c.args.meet.now.parts.now) c.args.meet.now.parts.now c.args.run.now c.requires c.in_ok-rows.rows c.in_ok-ends.ends c.in_ok-rows.ensures.count c.in_ok-rows.ensures.rows
    (λ x e. subst (λ y. AreSteps (as_step g.P.Machine.ends_with) c.args.meet.now.parts.now y 0 y c.in_ok-ends.ends) (some-once (slice_get c.args.run.now.states _) c.as_slice-at.result.now x at e) c.in_ok-ends.ensures.steps)
    c.loop-place.place p.0 part p.1 facts.word facts.states column last in
    record {
      runs = runs-next g.P.Machine.ends_with g.P.Machine.steps_to g.P.Machine.first c.args.meet.now.parts.now c.args.run.now.word c.loop-place.runs c.push.new.self c.loop-place.place p.0 part p.1 c.loop-place.invariant.runs is facts.word c.in_ok-push.ensures.ok;
      costs = totals-next c.loop-place.runs c.push.new.self part (totals c.in_ok-rows.rows c.in_ok-ends.ends) c.loop-place.place c.loop-place.invariant.costs c.in_ok-push.ensures.ok
          (totals-at c.in_ok-rows.rows c.in_ok-ends.ends part.costs c.loop-place.place part.last last column);
    }

pub returns-clause-runs : goal.returns-clause-runs
returns-clause-runs g c =
    subst (λ ps. ArePartRuns g.P.Machine.ends_with g.P.Machine.steps_to g.P.Machine.first ps c.args.run.now.word c.loop-place.runs) (take_all c.loop-place.place c.args.meet.now.parts.now c.loop-place-test.false) c.loop-place.invariant.runs

pub returns-clause-costs : goal.returns-clause-costs
returns-clause-costs g c =
    let goes = run-goes g.P.Machine.is_state g.P.Machine.ends_with g.P.Machine.steps_to g.P.Machine.first g.P.Machine.width g.P.Machine.top g.met.P.Machine.first_is_state g.met.P.Machine.step_is_state g.met.P.Machine.step_cost
    g.met.P.Machine.end_cost (meet_width g.P.Machine.width c.args.meet.now.parts.now) c.args.meet.now.parts.now c.args.meet.now.agree c.args.run.now c.requires in
    all-add-up g.P.Machine.steps_to (meet_width g.P.Machine.width c.args.meet.now.parts.now) c.args.meet.now.parts.now c.args.run.now c.in_ok-rows.rows c.in_ok-ends.ends c.in_ok-rows.ensures.rows c.in_ok-rows.ensures.count c.in_ok-ends.ensures.steps.count
    (subst (λ n. sum_costs n c.in_ok-ends.ends ≡ c.args.run.now.last) goes.last c.in_ok-ends.ensures.sum) c.loop-place.runs c.loop-place.place c.loop-place-test.false c.loop-place.invariant.costs

pub bounds-as_slice-len : goal.bounds-as_slice-len
bounds-as_slice-len g c =
    let n = run-lengths g.P.Machine.ends_with g.P.Machine.steps_to g.P.Machine.first (meet_width g.P.Machine.width c.args.meet.now.parts.now) c.args.meet.now.parts.now c.args.run.now c.requires in
    let first = n.0 in
    let states = ap length c.as_slice.ensures in
    let word = c.len.ensures in
    omega arith

pub offset_bounds-as_slice-len : goal.offset_bounds-as_slice-len
offset_bounds-as_slice-len g c =
    let n = run-lengths g.P.Machine.ends_with g.P.Machine.steps_to g.P.Machine.first (meet_width g.P.Machine.width c.args.meet.now.parts.now) c.args.meet.now.parts.now c.args.run.now c.requires in
    let first = n.0 in
    let states = ap length c.as_slice.ensures in
    let word = c.len.ensures in
    let room = c.as_slice.type_inv.1 in
    omega arith
