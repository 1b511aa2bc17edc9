use Rattle.regex_machine.proofs.CopyLanguage.{copies-language}
use Rattle.regex_machine.proofs.copies.Copies.of.Goals as goal

pub returns-clause-read : goal.returns-clause-read
returns-clause-read c = copies-language c.args.part.now c.requires.plain c.args.least c.args.most c.args.again c.may_end-reads_empty.result c.requires.some c.requires.order c.requires.once c.may_end-reads_empty.ensures
