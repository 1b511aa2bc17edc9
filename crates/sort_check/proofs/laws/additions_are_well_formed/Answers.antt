use Rattle.sort_check.specs.Checking.{checked}
use Rattle.sort_check.specs.declared.commands.Command.TheVariants as command
use Rattle.sort_check.proofs.WellCommands.{IsSound, checked-sound}
use Rattle.smt_names.specs.Giving.{gave}
use Rattle.sort_check.proofs.laws.additions_are_well_formed.Goals as goal

pub returns-clause-declared : goal.returns-clause-declared
returns-clause-declared c symbols item name s wf e = gave (IsSound symbols) (checked symbols item) (command.Declare name s) (checked-sound symbols item wf) e

pub returns-clause-defined : goal.returns-clause-defined
returns-clause-defined c symbols item name d wf e = gave (IsSound symbols) (checked symbols item) (command.Define name d) (checked-sound symbols item wf) e

pub returns-clause-named : goal.returns-clause-named
returns-clause-named c symbols item name term wf e = (gave (IsSound symbols) (checked symbols item) (command.AssertNamed name term) (checked-sound symbols item wf) e).1
