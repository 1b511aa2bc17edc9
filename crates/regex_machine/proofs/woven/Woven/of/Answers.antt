use Rattle.regex_machine.proofs.WovenLemmas.{woven-reads}
use Rattle.regex_machine.proofs.woven.Woven.of.Goals as goal

pub returns-clause-read : goal.returns-clause-read
returns-clause-read c o w e = woven-reads c.args.states.now c.requires.closed w c.args.start o e
