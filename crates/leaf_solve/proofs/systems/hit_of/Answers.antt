use Rattle.std.proofs.Common.{◌∙◌, ℤ, ◌+◌, List, length, ap, sym, subst}
use Rattle.farkas_check.specs.Cuts.{values_of}
use Rattle.parikh_flow.specs.Rows.{unknowns_after}
use Rattle.parikh_flow.specs.Solutions.{HaveFlowsAt}
use Rattle.leaf_solve.specs.Steps.{HaveShortFlowsAt}
use Rattle.leaf_solve.proofs.AnswerLemmas.{short-flows, point-size, sat-answer}
use Rattle.leaf_solve.proofs.systems.hit_of.Goals as goal

pub runs_at-requires-clause-room : goal.runs_at-requires-clause-room
runs_at-requires-clause-room c =
    ap (λ n. unknowns_after (c.args.question.now.integers + n) c.args.question.now.machines.now) c.len.ensures
    ∙ point-size c.args.question.now.machines.now c.args.question.now.integers c.args.question.now.rows.now c.args.question.now.region.now c.args.question.now.small c.args.question.now.reach c.requires.asked
    c.args.system.now c.args.point c.requires.system c.requires.solution c.solutions_are_hits.ensures.hit
    ∙ sym (ap length c.as_slice.ensures)

pub runs_at-requires-clause-flows : goal.runs_at-requires-clause-flows
runs_at-requires-clause-flows c =
    subst (λ (l : List ℤ). HaveShortFlowsAt (values_of l) (c.args.question.now.integers + c.len.result) c.args.question.now.machines.now) (sym c.as_slice.ensures)
    (subst (λ n. HaveShortFlowsAt (values_of c.args.point) (c.args.question.now.integers + n) c.args.question.now.machines.now) (sym c.len.ensures)
    (short-flows c.args.question.now.machines.now c.args.question.now.integers c.args.question.now.rows.now c.args.question.now.region.now c.args.question.now.small c.args.question.now.reach c.requires.asked
    c.args.system.now c.args.point c.requires.system c.requires.solution c.solutions_are_hits.ensures.hit c.solutions_are_hits.ensures.flows))

pub returns : goal.returns
returns c =
    sat-answer c.args.question.now.machines.now c.args.question.now.integers c.args.question.now.rows.now c.args.question.now.region.now c.args.question.now.small c.args.question.now.reach c.requires.asked
    c.args.system.now c.args.point c.requires.system c.requires.solution c.solutions_are_hits.ensures.hit
    (record { runs = c.in_ok-runs.runs; integers = c.truncate.new.self })
    (subst (λ (l : List ℤ). HaveFlowsAt (values_of l) (c.args.question.now.integers + length c.args.question.now.region.now.registers) c.args.question.now.machines.now c.in_ok-runs.runs) c.as_slice.ensures
    (subst (λ n. HaveFlowsAt (values_of c.as_slice.result.now) (c.args.question.now.integers + n) c.args.question.now.machines.now c.in_ok-runs.runs) c.len.ensures c.in_ok-runs.ensures))
    c.truncate.ensures
