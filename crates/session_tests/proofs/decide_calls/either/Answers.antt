use Rattle.std.proofs.Common.{refl, sym, subst}
use Rattle.sv_terms.specs.declared.op.Op.TheVariants as op
use Rattle.sv_terms.specs.declared.sort.Sort.TheVariants as sort
use Rattle.sv_terms.specs.declared.term.Term.TheVariants as v
use Rattle.decide.specs.Samples.{IsSample}
use Rattle.session_tests.proofs.DecideSamples.{pair-sample}
use Rattle.session_tests.proofs.decide_calls.either.Goals as goal

pub returns : goal.returns
returns c =
    subst (λ ts. IsSample sort.Bool (v.Apply op.Or ts)) (sym c.in_ok-terms.ensures) (pair-sample op.Or sort.Bool sort.Bool c.args.first c.args.second refl c.requires.first c.requires.second)
