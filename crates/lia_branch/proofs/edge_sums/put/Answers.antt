use Rattle.std.proofs.Common.{suc, ◌+ℤ◌, ◌*ℤ◌, ap, sym, ◌∙◌, subst, arith}
use Rattle.std.specs.Int.{w128}
use Rattle.std.proofs.lemmas.Int.{ints, to_z-of_z}
use Rattle.sv_linear.specs.Forms.{form_value}
use Rattle.sv_linear.specs.Terms.{AscendsWithin, terms_value}
use Rattle.lia_reduce.specs.RowTerms.{wider, pushed_ascends, pushed_value}
use Rattle.lia_branch.proofs.EdgeRows.{pushed_small, added_small}
use Rattle.lia_branch.proofs.edge_sums.put.Goals as goal

pub push-requires-clause-last : goal.push-requires-clause-last
push-requires-clause-last c = wider 0 c.args.next c.args.unknown c.args.form.coefficients c.requires.ascends c.if-next-unknown.true

pub returns-then-next-unknown-clause-value : goal.returns-then-next-unknown-clause-value
returns-then-next-unknown-clause-value c = λ x d.
    let e = rw (to_z-of_z w128 c.args.by c.ranges.by) at c.in_ok-push.ensures.ok in
    let a = ap (terms_value x) e in
    let k = ap (λ z. z *ℤ d) c.push.ensures.constant in
    omega (arith, ints, a, k, pushed_value x c.args.form.coefficients c.args.unknown c.args.by)

pub returns-then-next-unknown-clause-small : goal.returns-then-next-unknown-clause-small
returns-then-next-unknown-clause-small c =
    let e = rw (to_z-of_z w128 c.args.by c.ranges.by) at c.in_ok-push.ensures.ok in
    pushed_small c.args.form c.push.new.self c.args.unknown c.args.by e c.push.ensures.constant c.requires.sign

pub returns-then-next-unknown-clause-ascends : goal.returns-then-next-unknown-clause-ascends
returns-then-next-unknown-clause-ascends c = λ h.
    let e = rw (to_z-of_z w128 c.args.by c.ranges.by) at c.in_ok-push.ensures.ok in
    subst (AscendsWithin 0 (suc c.args.unknown)) (sym e) (pushed_ascends 0 c.args.unknown c.args.by c.args.form.coefficients (wider 0 c.args.next c.args.unknown c.args.form.coefficients c.requires.ascends h) (omega (arith, c.requires.sign)))

pub returns-in-Ok-clause-small : goal.returns-in-Ok-clause-small
returns-in-Ok-clause-small c = added_small c.args.form c.in_ok-one.one c.in-Ok.sum c.in-Ok.ensures.value c.in_ok-one.ensures.small

pub returns-in-Ok-clause-value : goal.returns-in-Ok-clause-value
returns-in-Ok-clause-value c = λ x d.
    let one = rw (to_z-of_z w128 c.args.by c.ranges.by) at (c.in_ok-one.ensures.value x d) in
    c.in-Ok.ensures.value x d ∙ ap (λ z. form_value x d c.args.form +ℤ z) one

pub returns-in-Ok-clause-ascends : goal.returns-in-Ok-clause-ascends
returns-in-Ok-clause-ascends c = λ le. absurd (let above = c.if-next-unknown.false in omega arith)
