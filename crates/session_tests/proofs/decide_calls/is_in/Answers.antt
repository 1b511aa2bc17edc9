use Rattle.std.proofs.Common.{sym, subst}
use Rattle.sv_terms.specs.declared.sort.Sort.TheVariants as sort
use Rattle.sv_terms.specs.declared.term.Term.TheVariants as v
use Rattle.decide.specs.Samples.{IsSample}
use Rattle.session_tests.proofs.DecideSamples.{member-sample}
use Rattle.session_tests.proofs.decide_calls.is_in.Goals as goal

pub returns : goal.returns
returns c =
    subst (λ t. IsSample sort.Bool (v.InRe t c.args.regex)) (sym c.in_ok-boxed.ensures) (member-sample c.in_ok-constant.constant c.args.regex c.in_ok-constant.ensures)
