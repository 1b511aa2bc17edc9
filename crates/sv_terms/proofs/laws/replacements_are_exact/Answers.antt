use Rattle.sv_terms.specs.ReplacementLaws.{first-is, all-is}
use Rattle.sv_terms.proofs.laws.replacements_are_exact.Goals as goal

pub returns-clause-first : goal.returns-clause-first
returns-clause-first c = first-is

pub returns-clause-all : goal.returns-clause-all
returns-clause-all c = all-is
