use Rattle.sv_list.specs.Lists.{IfOk-both}
use Rattle.regex_machine.proofs.LetterLemmas.{nothing-reads}
use Rattle.regex_machine.proofs.letters.nothing.Goals as goal

pub returns-clause-reads : goal.returns-clause-reads
returns-clause-reads c = IfOk-both c.new.result _ _ _ c.new.ensures.registers c.new.ensures.ends nothing-reads
