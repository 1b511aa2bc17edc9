use Rattle.std.proofs.Common.{rules, FitsSigned, ◌+ℤ◌, ◌≤ℤ◌, arith}
use Rattle.std.specs.Int.{w128}
use Rattle.std.proofs.lemmas.Int.{ints, to_z-of_z}
use Rattle.sv_linear.specs.Terms.{terms_value}
use Rattle.search_hits.specs.Boxes.{value_at}
use Rattle.box_layers.proofs.FindLemmas.{within-at, met-below, met-equation, meets-equation, meets-inequality}
use Rattle.box_layers.proofs.finding.may_be_met.Goals as goal

pub returns-in-Le-clause-fails : goal.returns-in-Le-clause-fails
returns-in-Le-clause-fails c = λ test xs w m.
    let fl : FitsSigned w128 c.bounds-least.result.0 = search rules in
    let fg : FitsSigned w128 c.bounds-least.result.1 = search rules in
    let b = c.bounds-least.ensures.between (value_at xs) (within-at c.args.sides.now xs w) in
    let b0 : c.bounds-least.result.0 ≤ℤ (terms_value (value_at xs) c.args.row.now.form.coefficients +ℤ c.args.row.now.form.constant) = b.0 in
    let b1 : (terms_value (value_at xs) c.args.row.now.form.coefficients +ℤ c.args.row.now.form.constant) ≤ℤ c.bounds-least.result.1 = b.1 in
    let t = rw (to_z-of_z w128 c.bounds-least.result.0 fl) at test in
    let a = met-below (value_at xs) c.args.row.now m in
    grind (arith, ints)

pub returns-in-Le-clause-point : goal.returns-in-Le-clause-point
returns-in-Le-clause-point c = λ test all xs w.
    let fl : FitsSigned w128 c.bounds-least.result.0 = search rules in
    let fg : FitsSigned w128 c.bounds-least.result.1 = search rules in
    let b = c.bounds-least.ensures.between (value_at xs) (within-at c.args.sides.now xs w) in
    let b0 : c.bounds-least.result.0 ≤ℤ (terms_value (value_at xs) c.args.row.now.form.coefficients +ℤ c.args.row.now.form.constant) = b.0 in
    let b1 : (terms_value (value_at xs) c.args.row.now.form.coefficients +ℤ c.args.row.now.form.constant) ≤ℤ c.bounds-least.result.1 = b.1 in
    let t = rw (to_z-of_z w128 c.bounds-least.result.0 fl) at test in
    let e = c.bounds-least.ensures.point all in
    meets-inequality (value_at xs) c.args.row.now c.in-Le.is (grind (arith, ints))

pub returns-then-least-le0-clause-fails : goal.returns-then-least-le0-clause-fails
returns-then-least-le0-clause-fails c = λ test xs w m.
    let fl : FitsSigned w128 c.bounds-least.result.0 = search rules in
    let fg : FitsSigned w128 c.bounds-least.result.1 = search rules in
    let b = c.bounds-least.ensures.between (value_at xs) (within-at c.args.sides.now xs w) in
    let b0 : c.bounds-least.result.0 ≤ℤ (terms_value (value_at xs) c.args.row.now.form.coefficients +ℤ c.args.row.now.form.constant) = b.0 in
    let b1 : (terms_value (value_at xs) c.args.row.now.form.coefficients +ℤ c.args.row.now.form.constant) ≤ℤ c.bounds-least.result.1 = b.1 in
    let t = rw (to_z-of_z w128 c.bounds-least.result.1 fg) at test in
    let a = met-equation (value_at xs) c.args.row.now c.in-Eq.is m in
    grind (arith, ints)

pub returns-then-least-le0-clause-point : goal.returns-then-least-le0-clause-point
returns-then-least-le0-clause-point c = λ test all xs w.
    let fl : FitsSigned w128 c.bounds-least.result.0 = search rules in
    let fg : FitsSigned w128 c.bounds-least.result.1 = search rules in
    let b = c.bounds-least.ensures.between (value_at xs) (within-at c.args.sides.now xs w) in
    let b0 : c.bounds-least.result.0 ≤ℤ (terms_value (value_at xs) c.args.row.now.form.coefficients +ℤ c.args.row.now.form.constant) = b.0 in
    let b1 : (terms_value (value_at xs) c.args.row.now.form.coefficients +ℤ c.args.row.now.form.constant) ≤ℤ c.bounds-least.result.1 = b.1 in
    let t = rw (to_z-of_z w128 c.bounds-least.result.1 fg) at test in
    let u = rw (to_z-of_z w128 c.bounds-least.result.0 fl) at c.if-least-le0.true in
    let e = c.bounds-least.ensures.point all in
    meets-equation (value_at xs) c.args.row.now (grind (arith, ints))

pub returns-else-least-le0-clause-fails : goal.returns-else-least-le0-clause-fails
returns-else-least-le0-clause-fails c = λ test xs w m.
    let fl : FitsSigned w128 c.bounds-least.result.0 = search rules in
    let fg : FitsSigned w128 c.bounds-least.result.1 = search rules in
    let b = c.bounds-least.ensures.between (value_at xs) (within-at c.args.sides.now xs w) in
    let b0 : c.bounds-least.result.0 ≤ℤ (terms_value (value_at xs) c.args.row.now.form.coefficients +ℤ c.args.row.now.form.constant) = b.0 in
    let b1 : (terms_value (value_at xs) c.args.row.now.form.coefficients +ℤ c.args.row.now.form.constant) ≤ℤ c.bounds-least.result.1 = b.1 in
    let u = rw (to_z-of_z w128 c.bounds-least.result.0 fl) at c.if-least-le0.false in
    let a = met-below (value_at xs) c.args.row.now m in
    grind (arith, ints)
