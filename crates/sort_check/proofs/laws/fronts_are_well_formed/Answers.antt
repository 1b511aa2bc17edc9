use Rattle.std.proofs.Common.{refl, []}
use Rattle.sort_check.proofs.WellNames.{follow-prefix, well-formed-take}
use Rattle.sort_check.proofs.laws.fronts_are_well_formed.Goals as goal

pub returns-clause-empty : goal.returns-clause-empty
returns-clause-empty c = refl

pub returns-clause-prefix : goal.returns-clause-prefix
returns-clause-prefix c = follow-prefix []

pub returns-clause-taken : goal.returns-clause-taken
returns-clause-taken c = well-formed-take
