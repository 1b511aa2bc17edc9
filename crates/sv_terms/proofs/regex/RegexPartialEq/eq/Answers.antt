use Rattle.sv_terms.specs.Written.{same_regex-tells}
use Rattle.sv_terms.proofs.regex.RegexPartialEq.eq.Goals as goal

pub returns : goal.returns
returns c = same_regex-tells c.same.result c.args.self.now c.args.other.now c.same.ensures
