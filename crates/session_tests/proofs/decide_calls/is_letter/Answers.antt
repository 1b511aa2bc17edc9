use Rattle.std.proofs.Common.{refl, sym, subst}
use Rattle.sv_terms.specs.declared.op.Op.TheVariants as op
use Rattle.sv_terms.specs.declared.sort.Sort.TheVariants as sort
use Rattle.sv_terms.specs.declared.term.Term.TheVariants as v
use Rattle.decide.specs.Samples.{IsSample}
use Rattle.session_tests.proofs.DecideSamples.{pair-sample, text-sample}
use Rattle.session_tests.proofs.decide_calls.is_letter.Goals as goal

pub returns : goal.returns
returns c =
    subst (λ ts. IsSample sort.Bool (v.Apply op.Equal ts)) (sym c.in_ok-terms.ensures)
    (pair-sample op.Equal sort.String sort.Bool c.in_ok-constant.constant (v.Text c.in_ok-word.word) refl c.in_ok-constant.ensures (text-sample c.in_ok-word.word))
