use Rattle.std.proofs.Common.{◌∙◌, sym}
use Rattle.leaf_solve.proofs.AnswerLemmas.{kept, given-up}
use Rattle.leaf_solve.proofs.rows.gave_up.Goals as goal

pub hits_are_short-requires : goal.hits_are_short-requires
hits_are_short-requires c = c.requires.asked.registers

pub returns-in-Some : goal.returns-in-Some
returns-in-Some c =
    kept c.args.question.now.machines.now c.args.question.now.integers c.args.question.now.rows.now c.args.question.now.region.now c.args.question.now.small c.args.question.now.reach c.requires.asked
    c.hits_are_short.ensures c.requires.past c.args.free c.args.evidence c.in-Some.beyond c.requires.free c.requires.gave_up (sym c.then_some.ensures ∙ c.in-Some.is)

pub returns-in-None : goal.returns-in-None
returns-in-None c =
    given-up c.args.question.now.machines.now c.args.question.now.integers c.args.question.now.rows.now c.args.question.now.region.now c.args.question.now.small c.args.question.now.reach c.requires.asked
    c.hits_are_short.ensures c.requires.past _ (sym c.then_some.ensures ∙ c.in-None.is)
