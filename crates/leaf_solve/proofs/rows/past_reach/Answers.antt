use Rattle.leaf_solve.proofs.RunLemmas.{is-none, is-some}
use Rattle.leaf_solve.proofs.AnswerLemmas.{closed-at-once, past, long-answer}
use Rattle.leaf_solve.proofs.rows.past_reach.Goals as goal

pub hits_are_short-requires : goal.hits_are_short-requires
hits_are_short-requires c = c.requires.asked.registers

pub returns-then-is_empty-clause-answer : goal.returns-then-is_empty-clause-answer
returns-then-is_empty-clause-answer c =
    closed-at-once c.args.question.now.machines.now c.args.question.now.integers c.args.question.now.rows.now c.args.question.now.region.now c.args.question.now.small c.args.question.now.reach c.requires.asked
    c.args.bounded c.args.tree c.solutions_are_hits.ensures.solution c.requires.bounded c.requires.accepted
    (is-none c.args.question.now.machines.now c.is_empty.result c.is_empty.ensures c.if-is_empty.true)

pub without_reach-requires-clause-past : goal.without_reach-requires-clause-past
without_reach-requires-clause-past c =
    past c.args.question.now.machines.now c.args.question.now.integers c.args.question.now.rows.now c.args.question.now.region.now c.args.question.now.small c.args.question.now.reach c.requires.asked
    c.args.bounded c.args.tree c.solutions_are_hits.ensures.solution c.hits_are_short.ensures c.requires.bounded c.requires.accepted
    (is-some c.args.question.now.machines.now c.is_empty.result c.is_empty.ensures c.if-is_empty.false)

pub returns-in-Nothing-clause-answer : goal.returns-in-Nothing-clause-answer
returns-in-Nothing-clause-answer c = rw c.in-Nothing.is at c.in_ok-closing.ensures

pub returns-in-Something-clause-answer : goal.returns-in-Something-clause-answer
returns-in-Something-clause-answer c =
    long-answer c.args.question.now.machines.now c.args.question.now.integers c.args.question.now.rows.now c.args.question.now.region.now c.args.question.now.small c.args.question.now.reach c.requires.asked
    c.args.bounded c.args.tree c.solutions_are_hits.ensures.solution c.hits_are_short.ensures c.requires.bounded c.requires.accepted
    (is-some c.args.question.now.machines.now c.is_empty.result c.is_empty.ensures c.if-is_empty.false)
    c.in-Something.beyond c.requires.inhabited c.requires.has_rows (rw c.in-Something.is at c.in_ok-closing.ensures).1

pub returns-in-Something-clause-decided : goal.returns-in-Something-clause-decided
returns-in-Something-clause-decided c = λ holds. (rw c.in-Something.is at c.in_ok-closing.ensures).0 holds
