use Rattle.sort_check.proofs.WellNames.{known-more, valued-by}
use Rattle.sort_check.proofs.laws.constants_have_values.Goals as goal

pub returns-clause-kept : goal.returns-clause-kept
returns-clause-kept c = known-more

pub returns-clause-valued : goal.returns-clause-valued
returns-clause-valued c = valued-by
