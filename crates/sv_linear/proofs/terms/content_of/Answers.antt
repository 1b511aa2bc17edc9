use Rattle.std.proofs.Common.{rules, pos, get_or, subst}
use Rattle.std.specs.Int.{w128, IsGcd}
use Rattle.std.proofs.lemmas.Int.{to_z-of_z}
use mir.Val.{SFits}
use Rattle.sv_linear.proofs.Contents.{content-none, content-more}
use Rattle.sv_linear.proofs.terms.content_of.Goals as goal

pub loop-coefficient-init : goal.loop-coefficient-init
loop-coefficient-init c = content-none _ _ c.unsigned_abs-divisor.ensures.value

pub loop-coefficient-preserved : goal.loop-coefficient-preserved
loop-coefficient-preserved c =
    let fe : SFits w128 (get_or c.args.terms.now c.loop-coefficient.coefficient-index (0, pos 0)).1 = search rules in
    let a = rw (to_z-of_z w128 _ fe) at c.unsigned_abs.ensures.value in
    content-more _ c.args.terms.now c.loop-coefficient.coefficient-index (0, pos 0) _ _ c.loop-coefficient-test.true c.loop-coefficient.invariant
    (subst (λ n. IsGcd c.loop-coefficient.divisor n c.gcd_unsigned-divisor.result) a c.gcd_unsigned-divisor.ensures)
