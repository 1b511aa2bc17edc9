use Rattle.std.proofs.Common.{◌≡◌, pos, ◌≤ℤ◌, false, true, map, ◌∙◌, sym, arith}
use Rattle.std.specs.Int.{w128}
use Rattle.std.proofs.lemmas.Int.{ints, to_z-of_z}
use Rattle.std.proofs.Common.{rules}
use Rattle.farkas_check.specs.Systems.{constraint_of}
use Rattle.farkas_check.specs.Closings.{OfEquations}
use Rattle.farkas_check.proofs.Covering.{equations_allowed}
use Rattle.farkas_check.proofs.LeafSums.{divisor_of, divisor_back}
use Rattle.farkas_check.proofs.leaf_test.test_divisor.Goals as goal

pub sum_of-requires-clause-allowed : goal.sum_of-requires-clause-allowed
sum_of-requires-clause-allowed c =
    let e : OfEquations 0 (map constraint_of c.args.rows.now) c.args.multipliers.now = search rules in
    equations_allowed 0 _ _ e

pub past_column-requires-clause-allowed : goal.past_column-requires-clause-allowed
past_column-requires-clause-allowed c =
    let e : OfEquations 0 (map constraint_of c.args.rows.now) c.args.multipliers.now = search rules in
    equations_allowed 0 _ _ e

pub returns-then-is_indivisible : goal.returns-then-is_indivisible
returns-then-is_indivisible c =
    let e : OfEquations 0 (map constraint_of c.args.rows.now) c.args.multipliers.now = search rules in
    let s = rw c.in-Some.is at c.in_ok-sum_of.ensures in
    let two : pos 2 ≤ℤ c.args.divisor = omega (arith, ints, c.if-divisor-lt-LEAST_DIVISOR.false) in
    let h = (rw (to_z-of_z w128 c.args.divisor c.ranges.divisor) at c.is_indivisible.ensures).0 c.if-is_indivisible.true in
    (divisor_of _ _ c.args.divisor c.in-Some.sum e two s h.0 h.1, s.fits)

pub returns : goal.returns
returns c = λ r.
    let s = rw c.in-Some.is at c.in_ok-sum_of.ensures in
    let t = (rw (to_z-of_z w128 c.args.divisor c.ranges.divisor) at c.is_indivisible.ensures).1 (divisor_back _ _ c.args.divisor c.in-Some.sum s r) in
    let both : false ≡ true = sym c.if-is_indivisible.false ∙ t in
    absurd (cc)
