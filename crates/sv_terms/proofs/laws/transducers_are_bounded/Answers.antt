use Rattle.sv_terms.specs.TransducerSizeLaws.{within-most}
use Rattle.sv_terms.proofs.Sizing.{formed-same}
use Rattle.sv_terms.proofs.laws.transducers_are_bounded.Goals as goal

pub returns-clause-formed : goal.returns-clause-formed
returns-clause-formed c = formed-same

pub returns-clause-within : goal.returns-clause-within
returns-clause-within c = within-most
