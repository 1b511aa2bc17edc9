use Rattle.std.proofs.Common.{rules, ◌≢◌, pos, arith}
use Rattle.std.specs.Int.{w128}
use Rattle.std.proofs.lemmas.Int.{ints, to_z-of_z}
use mir.Val.{SFits}
use Rattle.sv_linear.specs.Combining.{IsSymmetric}
use Rattle.number_tests.proofs.LiaTableauRows.{ascends_push, ascends_skip, symmetric_push}
use Rattle.number_tests.proofs.lia_tableau_calls.push_term.Goals as goal

pub returns-then-coefficient-eq0-clause-unknowns : goal.returns-then-coefficient-eq0-clause-unknowns
returns-then-coefficient-eq0-clause-unknowns c = ascends_skip 0 c.args.unknown c.args.form.now.coefficients c.requires.unknowns

pub returns-clause-unknowns : goal.returns-clause-unknowns
returns-clause-unknowns c =
    let z : c.args.coefficient ≢ pos 0 = search rules in
    let f : SFits w128 c.args.coefficient = search rules in
    let e = rw (to_z-of_z w128 _ f) at c.in_ok-push.ensures.ok in
    rw e (ascends_push 0 c.args.unknown c.args.form.now.coefficients c.args.coefficient c.requires.unknowns z)

pub returns-clause-symmetric : goal.returns-clause-symmetric
returns-clause-symmetric c =
    let s : IsSymmetric c.args.coefficient = omega (arith, ints, c.if-coefficient-lt-LEAST.false, c.ranges.coefficient.sfits) in
    let f : SFits w128 c.args.coefficient = search rules in
    let e = rw (to_z-of_z w128 _ f) at c.in_ok-push.ensures.ok in
    symmetric_push c.args.form.now c.push.new.self c.args.unknown c.args.coefficient c.requires.unknowns e c.in_ok-push.ensures.constant c.requires.symmetric s
