use Rattle.std.proofs.Common.{rules, ◌≡◌, ◌≢◌, ◌+◌, ◌++◌, ◌∷◌, [], suc, pos, sym, subst, arith}
use Rattle.std.specs.Int.{w128}
use Rattle.std.proofs.lemmas.Int.{to_z-of_z}
use mir.Val.{SFits}
use Rattle.sv_linear.specs.Terms.{AscendsWithin}
use Rattle.lia_reduce.specs.RowTerms.{wider}
use Rattle.lia_reduce.specs.RowTerms.{pushed_ascends}
use Rattle.lia_reduce.proofs.FormValues.{some-amount}
use Rattle.lia_reduce.proofs.elimination.push_term.Goals as goal

pub returns-then-coefficient-eq0 : goal.returns-then-coefficient-eq0
returns-then-coefficient-eq0 c = wider 0 c.args.unknown (c.args.unknown + 1) c.args.form.now.coefficients c.requires (omega arith)

pub returns : goal.returns
returns c =
    let z : c.args.coefficient ≢ pos 0 = search rules in
    let f : SFits w128 c.args.coefficient = search rules in
    let e = rw (to_z-of_z w128 _ f) at c.in_ok-push.ensures.ok in
    let next : suc c.args.unknown ≡ c.args.unknown + 1 = omega arith in
    subst (AscendsWithin 0 (c.args.unknown + 1)) (sym e) (subst (λ n. AscendsWithin 0 n (c.args.form.now.coefficients ++ (c.args.unknown, c.args.coefficient) ∷ [])) next (pushed_ascends 0 c.args.unknown c.args.coefficient c.args.form.now.coefficients c.requires (some-amount c.args.coefficient z)))
