use Rattle.sv_terms.proofs.Matching.{matches-In}
use Rattle.sv_terms.proofs.laws.membership_is_decided.Goals as goal

pub returns : goal.returns
returns c = matches-In
