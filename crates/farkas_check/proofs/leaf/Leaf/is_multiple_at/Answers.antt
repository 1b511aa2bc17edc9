use Rattle.std.proofs.Common.{rules, sym, subst}
use Rattle.std.specs.Int.{w128}
use Rattle.std.proofs.lemmas.Int.{to_z-of_z}
use mir.Val.{SFits}
use Rattle.sv_linear.specs.Divisors.{Divides}
use Rattle.farkas_check.proofs.leaf.Leaf.is_multiple_at.Goals as goal

pub returns-in-Some : goal.returns-in-Some
returns-in-Some c =
    let fits : SFits w128 c.in-Some.sum = search rules in
    let e = rw (to_z-of_z w128 _ fits, to_z-of_z w128 c.args.divisor c.ranges.divisor) at c.is_multiple.ensures in (
      (λ t. (c.in-Some.ensures.0, subst (Divides c.args.divisor) c.in-Some.ensures.1 (e.0 t))),
      (λ p. e.1 (subst (Divides c.args.divisor) (sym c.in-Some.ensures.1) p.1)),
    )
