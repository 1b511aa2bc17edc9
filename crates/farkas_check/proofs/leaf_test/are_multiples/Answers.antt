use Rattle.std.proofs.Common.{◌∙◌, pos, get_or, sym, refl, arith}
use Rattle.std.specs.Int.{w128}
use Rattle.std.proofs.lemmas.Int.{to_z-of_z}
use mir.Val.{SFits}
use Rattle.std.proofs.Common.{rules}
use borrow.Author.Count.{below_more}
use Rattle.sv_linear.specs.Divisors.{Divides}
use Rattle.farkas_check.proofs.Dense.{all_numbers}
use Rattle.farkas_check.proofs.Multiples.{divides_zero}
use Rattle.farkas_check.proofs.leaf_test.are_multiples.Goals as goal

pub returns-then-not-is_multiple : goal.returns-then-not-is_multiple
returns-then-not-is_multiple c =
    let fm : SFits w128 (get_or c.args.numbers.now c.loop-number.number-index (pos 0)) = search rules in
    let e = rw (to_z-of_z w128 c.args.divisor c.ranges.divisor, to_z-of_z w128 _ fm) at c.is_multiple.ensures in
    ((λ f. absurd (cc)), (λ h. sym c.if-not-is_multiple.true ∙ e.1 (h c.loop-number.number-index)))

pub loop-number-preserved : goal.loop-number-preserved
loop-number-preserved c =
    let by = to_z-of_z w128 c.args.divisor c.ranges.divisor in
    let fm : SFits w128 (get_or c.args.numbers.now c.loop-number.number-index (pos 0)) = search rules in
    let e = rw (by, to_z-of_z w128 _ fm) at c.is_multiple.ensures in
    rw by
    (below_more (λ k. Divides c.args.divisor (get_or c.args.numbers.now k (pos 0))) c.loop-number.number-index (rw by at c.loop-number.invariant) (e.0 c.if-not-is_multiple.false))

pub returns : goal.returns
returns c =
    let inv = rw (to_z-of_z w128 c.args.divisor c.ranges.divisor) at c.loop-number.invariant in
    ((λ told u. all_numbers (Divides c.args.divisor) c.args.numbers.now (divides_zero c.args.divisor (pos 0) refl) (λ k p. inv k (omega (arith, p, c.loop-number-test.false))) u), (λ h. refl))
