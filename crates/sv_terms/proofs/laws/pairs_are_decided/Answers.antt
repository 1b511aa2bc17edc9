use Rattle.sv_terms.proofs.Pairing.{writes-Pairs}
use Rattle.sv_terms.proofs.laws.pairs_are_decided.Goals as goal

pub returns : goal.returns
returns c = writes-Pairs
