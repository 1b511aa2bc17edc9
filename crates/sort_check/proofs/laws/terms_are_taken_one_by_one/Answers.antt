use Rattle.sort_check.specs.Checking.{checked, IsAskable}
use Rattle.sort_check.specs.declared.commands.Command.TheVariants as command
use Rattle.sort_check.proofs.WellCommands.{IsSound, checked-sound}
use Rattle.smt_names.specs.Giving.{gave}
use Rattle.sort_check.proofs.WellTerms.{each-all}
use Rattle.sort_check.proofs.laws.terms_are_taken_one_by_one.Goals as goal

pub returns : goal.returns
returns c symbols item asked wf e = each-all (IsAskable symbols) asked (gave (IsSound symbols) (checked symbols item) (command.GetValue asked) (checked-sound symbols item wf) e)
