use Rattle.generated_terms.proofs.Answered as answered
use Rattle.generated_terms.proofs.laws.block_answers_are_known.Goals as goal

pub returns : goal.returns
returns c = record { some = answered.some; none = answered.none; clear = answered.clear; not_opaque = answered.not_opaque }
