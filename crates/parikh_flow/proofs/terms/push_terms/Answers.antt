use Rattle.std.proofs.Common.{rules, pos, FitsSigned, get_or, refl, arith}
use Rattle.std.specs.Int.{w128}
use Rattle.std.proofs.lemmas.Int.{to_z-of_z}
use Rattle.parikh_flow.proofs.FormLemmas.{added-next}
use Rattle.parikh_flow.proofs.terms.push_terms.Goals as goal

pub loop-coefficient-preserved : goal.loop-coefficient-preserved
loop-coefficient-preserved c =
    let fits : FitsSigned w128 (get_or c.args.coefficients.now c.loop-coefficient.coefficient-index (pos 0)) = search rules in
    let added = rw (to_z-of_z w128 (get_or c.args.coefficients.now c.loop-coefficient.coefficient-index (pos 0)) fits) at c.in_ok-push_term.ensures.added in
    record {
      next = (let e = c.loop-coefficient.invariant.next in omega arith);
      added = added-next c.args.base c.loop-coefficient.coefficient-index c.loop-coefficient.unknown c.args.coefficients.now (get_or c.args.coefficients.now c.loop-coefficient.coefficient-index (pos 0))
          c.args.form.now c.loop-coefficient.form c.push_term.new.form c.loop-coefficient-test.true c.loop-coefficient.invariant.next refl c.loop-coefficient.invariant.added added;
      ascends = c.in_ok-push_term.ensures.ascends;
    }
