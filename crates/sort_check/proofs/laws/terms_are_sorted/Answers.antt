use Rattle.sort_check.specs.Checking.{checked, asked_term}
use Rattle.sort_check.specs.WellFormed.{IsTermOf, IsOfWrittenSort}
use Rattle.sort_check.proofs.WellTerms.{each-all}
use Rattle.sv_terms.specs.declared.sort.Sort.TheVariants as sort
use Rattle.sort_check.specs.declared.commands.Command.TheVariants as command
use Rattle.sort_check.proofs.WellCommands.{IsSound, asked-sound, checked-sound}
use Rattle.smt_names.specs.Giving.{gave}
use Rattle.sort_check.proofs.laws.terms_are_sorted.Goals as goal

pub returns-clause-asserted : goal.returns-clause-asserted
returns-clause-asserted c symbols item term wf e = gave (IsSound symbols) (checked symbols item) (command.Assert term) (checked-sound symbols item wf) e

pub returns-clause-named : goal.returns-clause-named
returns-clause-named c symbols item name term wf e = (gave (IsSound symbols) (checked symbols item) (command.AssertNamed name term) (checked-sound symbols item wf) e).0

pub returns-clause-assumed : goal.returns-clause-assumed
returns-clause-assumed c symbols item terms wf e = each-all (IsTermOf symbols sort.Bool) terms (gave (IsSound symbols) (checked symbols item) (command.CheckAssuming terms) (checked-sound symbols item wf) e)

pub returns-clause-asked : goal.returns-clause-asked
returns-clause-asked c symbols item term wf e = gave (IsOfWrittenSort symbols) (asked_term symbols item) term (asked-sound symbols wf item) e
