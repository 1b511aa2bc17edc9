use Rattle.regex_machine.proofs.StepLemmas.{steps-added, steps-inhabited}
use Rattle.regex_machine.proofs.stepping.add_steps.Goals as goal

pub returns-clause-exact : goal.returns-clause-exact
returns-clause-exact c = steps-added c.args.part.now c.requires.plain c.args.at c.args.number c.in_ok-moves.moves c.in_ok-moves.ensures.exact c.args.all.now c.lead.new.all c.in_ok-lead.ensures

pub returns-clause-inhabited : goal.returns-clause-inhabited
returns-clause-inhabited c = steps-inhabited c.args.number c.in_ok-moves.moves c.args.all.now c.lead.new.all c.in_ok-lead.ensures c.in_ok-moves.ensures.inhabited c.requires.inhabited
