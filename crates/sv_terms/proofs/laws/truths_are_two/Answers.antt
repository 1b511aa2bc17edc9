use Rattle.sv_terms.proofs.Truths.{three-truths}
use Rattle.sv_terms.proofs.laws.truths_are_two.Goals as goal

pub returns : goal.returns
returns c = three-truths
