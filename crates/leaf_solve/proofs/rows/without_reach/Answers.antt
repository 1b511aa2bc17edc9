use Rattle.leaf_solve.proofs.AnswerLemmas.{closed-answer, beyond-none}
use Rattle.leaf_solve.proofs.rows.without_reach.Goals as goal

pub hits_are_short-requires : goal.hits_are_short-requires
hits_are_short-requires c = c.requires.asked.registers

pub returns-in-Closed : goal.returns-in-Closed
returns-in-Closed c =
    closed-answer c.args.question.now.machines.now c.args.question.now.integers c.args.question.now.rows.now c.args.question.now.region.now c.args.question.now.small c.args.question.now.reach c.requires.asked
    c.in_ok-free.free c.in-Closed.whole c.solutions_are_hits.ensures.solution c.in_ok-free.ensures.system (rw c.in-Closed.is at c.in_ok-whole.ensures)

pub returns-in-Solution : goal.returns-in-Solution
returns-in-Solution c =
    let solution = rw c.in-Solution.is at c.in_ok-whole.ensures in (
      (λ holds.
          beyond-none c.args.question.now.machines.now c.args.question.now.integers c.args.question.now.rows.now c.args.question.now.region.now c.args.question.now.small c.args.question.now.reach c.requires.asked
          c.hits_are_short.ensures c.requires.past c.in_ok-free.free c.solutions_are_hits.ensures.hit c.solutions_are_hits.ensures.flows c.in_ok-free.ensures.system holds c.in-Solution.point solution),
      (c.in_ok-free.free, c.in_ok-free.ensures.system, solution),
    )

pub gave_up-requires-clause-gave_up : goal.gave_up-requires-clause-gave_up
gave_up-requires-clause-gave_up c = rw c.in-GaveUp.is at c.in_ok-whole.ensures
