use Rattle.regex_machine.proofs.ReversedLemmas.{trimmed-reversed}
use Rattle.regex_machine.proofs.reversal.reversed.Goals as goal

pub returns : goal.returns
returns c = trimmed-reversed c.args.part.now c.in_ok-whole.whole c.in_ok-back.back c.in_ok-whole.ensures c.in_ok-back.ensures.language c.in_ok-back.ensures.registers c.in_ok-back.ensures.states
