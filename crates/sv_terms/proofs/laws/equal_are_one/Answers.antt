use Rattle.sv_terms.specs.Written.{same_regex-exact}
use Rattle.sv_terms.proofs.laws.equal_are_one.Goals as goal

pub returns : goal.returns
returns c = same_regex-exact
