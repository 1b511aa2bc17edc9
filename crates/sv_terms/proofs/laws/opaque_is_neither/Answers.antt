use Rattle.sv_terms.proofs.Truths.{opaque-none, opaque-untrue, opaque-left-out}
use Rattle.sv_terms.proofs.laws.opaque_is_neither.Goals as goal

pub returns-clause-meaning : goal.returns-clause-meaning
returns-clause-meaning c = opaque-none

pub returns-clause-untrue : goal.returns-clause-untrue
returns-clause-untrue c = opaque-untrue

pub returns-clause-left_out : goal.returns-clause-left_out
returns-clause-left_out c = opaque-left-out
