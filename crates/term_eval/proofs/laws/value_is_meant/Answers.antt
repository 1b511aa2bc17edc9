use Rattle.term_eval.proofs.Faults.{value-meant}
use Rattle.term_eval.proofs.laws.value_is_meant.Goals as goal

pub returns : goal.returns
returns c = value-meant
