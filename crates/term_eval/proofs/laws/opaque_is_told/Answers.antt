use Rattle.term_eval.proofs.Faults.{opaque-told}
use Rattle.term_eval.proofs.laws.opaque_is_told.Goals as goal

pub returns : goal.returns
returns c = opaque-told
