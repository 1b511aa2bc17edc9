use Rattle.std.proofs.Common.{rules, pos, ◌≤ℤ◌, sym, ◌∙◌, subst, arith}
use Rattle.std.specs.Int.{w128}
use Rattle.std.proofs.lemmas.Int.{ints, to_z-of_z}
use Rattle.sv_list.specs.Bools.{not-both, not-from_refuted}
use mir.Val.{SFits}
use Rattle.sv_linear.specs.Divisors.{Divides}
use Rattle.farkas_check.specs.Leaves.{leaf_rows}
use Rattle.farkas_check.specs.Closings.{OfEquations}
use Rattle.farkas_check.proofs.Covering.{equations_allowed, divisor_told, divisor_multiples}
use Rattle.farkas_check.proofs.rules.is_divisor.Goals as goal

pub are_multiples-requires-clause-allowed : goal.are_multiples-requires-clause-allowed
are_multiples-requires-clause-allowed c =
    let e : OfEquations 0 (leaf_rows c.args.leaf.now) c.args.leaf.now.multipliers.now = search rules in
    equations_allowed 0 _ _ e

pub sum-requires : goal.sum-requires
sum-requires c =
    let e : OfEquations 0 (leaf_rows c.args.leaf.now) c.args.leaf.now.multipliers.now = search rules in
    equations_allowed 0 _ _ e

pub returns-then-not-are_multiples : goal.returns-then-not-are_multiples
returns-then-not-are_multiples c =
    let e = rw (to_z-of_z w128 c.args.divisor c.ranges.divisor) at c.are_multiples.ensures in (
      (λ f. absurd (cc)),
      (λ p. sym c.if-not-are_multiples.true ∙ e.1 (divisor_multiples (leaf_rows c.args.leaf.now) c.args.leaf.now.multipliers.now c.args.divisor p.0 p.1)),
    )

pub returns-in-Some : goal.returns-in-Some
returns-in-Some c =
    let rows = leaf_rows c.args.leaf.now in
    let equations : OfEquations 0 (leaf_rows c.args.leaf.now) c.args.leaf.now.multipliers.now = search rules in
    let fits : SFits w128 c.in-Some.constant = search rules in
    let by = to_z-of_z w128 c.args.divisor c.ranges.divisor in
    let all = rw by at c.are_multiples.ensures in
    let e = rw (to_z-of_z w128 _ fits, by) at c.is_multiple.ensures in
    let two : pos 2 ≤ℤ c.args.divisor = omega (arith, ints, c.if-divisor-lt-LEAST_DIVISOR.false) in
    divisor_told rows c.args.leaf.now.multipliers.now c.args.divisor _ equations two (all.0 c.if-not-are_multiples.false) c.in-Some.ensures.0
    (λ t d. not-both c.is_multiple.result t (e.1 (subst (Divides c.args.divisor) (sym c.in-Some.ensures.1) d)))
    (λ n. not-from_refuted c.is_multiple.result (λ t. n (subst (Divides c.args.divisor) c.in-Some.ensures.1 (e.0 t))))
