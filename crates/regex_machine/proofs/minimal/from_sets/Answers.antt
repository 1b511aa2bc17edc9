use Rattle.regex_machine.proofs.ReversedLemmas.{back-within}
use Rattle.regex_machine.proofs.minimal.from_sets.Goals as goal

pub returns-in-Ok : goal.returns-in-Ok
returns-in-Ok c = back-within c.args.part.now c.in_ok-turned.turned c.in-Ok.machine c.args.limit c.in_ok-turned.ensures c.in-Ok.ensures.0 c.in-Ok.ensures.2
