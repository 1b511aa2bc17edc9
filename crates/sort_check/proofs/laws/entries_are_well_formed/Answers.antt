use Rattle.sort_check.proofs.WellNames.{entries-allowed, entries-found}
use Rattle.sort_check.proofs.laws.entries_are_well_formed.Goals as goal

pub returns-clause-allowed : goal.returns-clause-allowed
returns-clause-allowed c = entries-allowed

pub returns-clause-found : goal.returns-clause-found
returns-clause-found c = entries-found
