use Rattle.std.proofs.Common.{rules, sym, subst, arith}
use Rattle.std.specs.Int.{w128}
use Rattle.std.proofs.lemmas.Int.{ints, to_z-of_z}
use mir.Val.{SFits}
use Rattle.sv_linear.specs.Combining.{IsSymmetric}
use Rattle.number_tests.proofs.LiaTableauRows.{none_symmetric}
use Rattle.number_tests.proofs.lia_tableau_calls.row_of.Goals as goal

pub push_term-requires-clause-symmetric : goal.push_term-requires-clause-symmetric
push_term-requires-clause-symmetric c =
    let s : IsSymmetric c.args.constant = omega (arith, ints, c.if-constant-lt-LEAST.false, c.ranges.constant.sfits) in
    let f : SFits w128 c.args.constant = search rules in
    let e = rw (to_z-of_z w128 _ f) at c.of_constant-form.ensures.constant in
    none_symmetric c.of_constant-form.result c.of_constant-form.ensures.coefficients (subst IsSymmetric (sym e) s)

pub returns : goal.returns
returns c = record { unknowns = c.in_ok-push_term-2.ensures.unknowns; symmetric = c.in_ok-push_term-2.ensures.symmetric }
