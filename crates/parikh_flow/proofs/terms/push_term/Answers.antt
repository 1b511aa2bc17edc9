use Rattle.std.proofs.Common.{◌≡◌, ◌+◌, pos, to_z, of_z, ap, ◌∙◌, subst, sym, arith}
use Rattle.std.specs.Int.{w128}
use Rattle.std.proofs.lemmas.Int.{to_z-of_z}
use Rattle.sv_linear.specs.Terms.{AscendsWithin}
use Rattle.sv_linear.proofs.Ascending.{AscendsWithin-widen}
use Rattle.parikh_flow.proofs.FormLemmas.{added-term, added-zero, ascends-push}
use Rattle.parikh_flow.proofs.terms.push_term.Goals as goal

pub returns-then-coefficient-eq0-clause-added : goal.returns-then-coefficient-eq0-clause-added
returns-then-coefficient-eq0-clause-added c =
    added-zero c.args.unknown c.args.coefficient c.args.form.now (sym (to_z-of_z w128 c.args.coefficient c.ranges.coefficient) ∙ ap (to_z w128) c.if-coefficient-eq0.true)

pub returns-then-coefficient-eq0-clause-ascends : goal.returns-then-coefficient-eq0-clause-ascends
returns-then-coefficient-eq0-clause-ascends c = AscendsWithin-widen 0 c.args.unknown (c.args.unknown + 1) c.args.form.now.coefficients (omega arith) c.requires

pub returns-clause-added : goal.returns-clause-added
returns-clause-added c =
    let e = rw (to_z-of_z w128 c.args.coefficient c.ranges.coefficient) at c.in_ok-push.ensures.ok in
    added-term c.args.unknown c.args.coefficient c.args.form.now c.push.new.self e c.in_ok-push.ensures.constant

pub returns-clause-ascends : goal.returns-clause-ascends
returns-clause-ascends c =
    let e = rw (to_z-of_z w128 c.args.coefficient c.ranges.coefficient) at c.in_ok-push.ensures.ok in
    let some : c.args.coefficient ≡ pos 0 → ⊥ = λ z. c.if-coefficient-eq0.false (ap (of_z w128) z) in
    subst (AscendsWithin 0 (c.args.unknown + 1)) (sym e) (ascends-push 0 c.args.unknown c.args.coefficient c.args.form.now.coefficients some c.requires)
