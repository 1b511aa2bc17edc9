use Rattle.std.proofs.Common.{refl}
use Rattle.regex_machine.proofs.StepLemmas.{may-end}
use Rattle.regex_machine.proofs.stepping.may_end.Goals as goal

pub returns : goal.returns
returns c = may-end c.args.part.now c.requires.plain c.args.at c.ends_at.result.now c.is_empty.result _ c.ends_at.ensures c.is_empty.ensures refl
