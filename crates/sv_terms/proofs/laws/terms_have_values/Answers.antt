use Rattle.sv_terms.proofs.ValueSorts.{val-sort}
use Rattle.sv_terms.proofs.laws.terms_have_values.Goals as goal

pub returns : goal.returns
returns c = val-sort
