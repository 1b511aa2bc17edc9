use Rattle.std.proofs.Common.{rules, sym, ◌≡◌, pos, FitsSigned, ◌*ℤ◌, ◌≤ℤ◌, ◌<ℤ◌, arith}
use Rattle.std.specs.Int.{w128}
use Rattle.std.proofs.lemmas.Int.{ints, to_z-of_z}
use Rattle.box_layers.proofs.BoundLemmas.{side-amounts, product-amount, product-requires, product-same, products-rising, products-falling}
use Rattle.box_layers.proofs.finding.products.Goals as goal

pub product-at_low-requires : goal.product-at_low-requires
product-at_low-requires c =
    rw (to_z-of_z w128 c.args.coefficient c.ranges.coefficient, to_z-of_z w128 c.args.low c.ranges.low) (product-requires c.args.coefficient c.args.low (c.args.low, c.args.high) (side-amounts (c.args.low, c.args.high) c.requires.side).0 c.requires.fits)

pub product-at_high-requires : goal.product-at_high-requires
product-at_high-requires c =
    rw (to_z-of_z w128 c.args.coefficient c.ranges.coefficient, to_z-of_z w128 c.args.high c.ranges.high) (product-requires c.args.coefficient c.args.high (c.args.low, c.args.high) (side-amounts (c.args.low, c.args.high) c.requires.side).1 c.requires.fits)

pub returns-then-coefficient-lt0-clause-between : goal.returns-then-coefficient-lt0-clause-between
returns-then-coefficient-lt0-clause-between c = λ v w.
    let elow : c.product-at_low.result ≡ c.args.coefficient *ℤ c.args.low = rw (to_z-of_z w128 c.args.coefficient c.ranges.coefficient, to_z-of_z w128 c.args.low c.ranges.low) at c.product-at_low.ensures in
    let flow : FitsSigned w128 c.product-at_low.result = search rules in
    let ehigh : c.product-at_high.result ≡ c.args.coefficient *ℤ c.args.high = rw (to_z-of_z w128 c.args.coefficient c.ranges.coefficient, to_z-of_z w128 c.args.high c.ranges.high) at c.product-at_high.ensures in
    let fhigh : FitsSigned w128 c.product-at_high.result = search rules in
    let test = rw (to_z-of_z w128 c.args.coefficient c.ranges.coefficient) at c.if-coefficient-lt0.true in
    let sign : c.args.coefficient <ℤ pos 0 = grind (arith, ints) in
    rw (to_z-of_z w128 c.product-at_low.result flow, to_z-of_z w128 c.product-at_high.result fhigh, elow, ehigh) (products-falling c.args.coefficient v (c.args.low, c.args.high) sign w)

pub returns-then-coefficient-lt0-clause-least : goal.returns-then-coefficient-lt0-clause-least
returns-then-coefficient-lt0-clause-least c =
    let ehigh : c.product-at_high.result ≡ c.args.coefficient *ℤ c.args.high = rw (to_z-of_z w128 c.args.coefficient c.ranges.coefficient, to_z-of_z w128 c.args.high c.ranges.high) at c.product-at_high.ensures in
    let fhigh : FitsSigned w128 c.product-at_high.result = search rules in
    rw (to_z-of_z w128 c.product-at_high.result fhigh) (product-amount c.args.coefficient c.args.high c.product-at_high.result (c.args.low, c.args.high) (side-amounts (c.args.low, c.args.high) c.requires.side).1 ehigh)

pub returns-then-coefficient-lt0-clause-greatest : goal.returns-then-coefficient-lt0-clause-greatest
returns-then-coefficient-lt0-clause-greatest c =
    let elow : c.product-at_low.result ≡ c.args.coefficient *ℤ c.args.low = rw (to_z-of_z w128 c.args.coefficient c.ranges.coefficient, to_z-of_z w128 c.args.low c.ranges.low) at c.product-at_low.ensures in
    let flow : FitsSigned w128 c.product-at_low.result = search rules in
    rw (to_z-of_z w128 c.product-at_low.result flow) (product-amount c.args.coefficient c.args.low c.product-at_low.result (c.args.low, c.args.high) (side-amounts (c.args.low, c.args.high) c.requires.side).0 elow)

pub returns-else-coefficient-lt0-clause-between : goal.returns-else-coefficient-lt0-clause-between
returns-else-coefficient-lt0-clause-between c = λ v w.
    let elow : c.product-at_low.result ≡ c.args.coefficient *ℤ c.args.low = rw (to_z-of_z w128 c.args.coefficient c.ranges.coefficient, to_z-of_z w128 c.args.low c.ranges.low) at c.product-at_low.ensures in
    let flow : FitsSigned w128 c.product-at_low.result = search rules in
    let ehigh : c.product-at_high.result ≡ c.args.coefficient *ℤ c.args.high = rw (to_z-of_z w128 c.args.coefficient c.ranges.coefficient, to_z-of_z w128 c.args.high c.ranges.high) at c.product-at_high.ensures in
    let fhigh : FitsSigned w128 c.product-at_high.result = search rules in
    let test = rw (to_z-of_z w128 c.args.coefficient c.ranges.coefficient) at c.if-coefficient-lt0.false in
    let sign : pos 0 ≤ℤ c.args.coefficient = grind (arith, ints) in
    rw (to_z-of_z w128 c.product-at_low.result flow, to_z-of_z w128 c.product-at_high.result fhigh, elow, ehigh) (products-rising c.args.coefficient v (c.args.low, c.args.high) sign w)

pub returns-else-coefficient-lt0-clause-least : goal.returns-else-coefficient-lt0-clause-least
returns-else-coefficient-lt0-clause-least c =
    let elow : c.product-at_low.result ≡ c.args.coefficient *ℤ c.args.low = rw (to_z-of_z w128 c.args.coefficient c.ranges.coefficient, to_z-of_z w128 c.args.low c.ranges.low) at c.product-at_low.ensures in
    let flow : FitsSigned w128 c.product-at_low.result = search rules in
    rw (to_z-of_z w128 c.product-at_low.result flow) (product-amount c.args.coefficient c.args.low c.product-at_low.result (c.args.low, c.args.high) (side-amounts (c.args.low, c.args.high) c.requires.side).0 elow)

pub returns-else-coefficient-lt0-clause-greatest : goal.returns-else-coefficient-lt0-clause-greatest
returns-else-coefficient-lt0-clause-greatest c =
    let ehigh : c.product-at_high.result ≡ c.args.coefficient *ℤ c.args.high = rw (to_z-of_z w128 c.args.coefficient c.ranges.coefficient, to_z-of_z w128 c.args.high c.ranges.high) at c.product-at_high.ensures in
    let fhigh : FitsSigned w128 c.product-at_high.result = search rules in
    rw (to_z-of_z w128 c.product-at_high.result fhigh) (product-amount c.args.coefficient c.args.high c.product-at_high.result (c.args.low, c.args.high) (side-amounts (c.args.low, c.args.high) c.requires.side).1 ehigh)

pub returns-then-coefficient-lt0-clause-point : goal.returns-then-coefficient-lt0-clause-point
returns-then-coefficient-lt0-clause-point c = λ h.
    let elow : c.product-at_low.result ≡ c.args.coefficient *ℤ c.args.low = rw (to_z-of_z w128 c.args.coefficient c.ranges.coefficient, to_z-of_z w128 c.args.low c.ranges.low) at c.product-at_low.ensures in
    let flow : FitsSigned w128 c.product-at_low.result = search rules in
    let ehigh : c.product-at_high.result ≡ c.args.coefficient *ℤ c.args.high = rw (to_z-of_z w128 c.args.coefficient c.ranges.coefficient, to_z-of_z w128 c.args.high c.ranges.high) at c.product-at_high.ensures in
    let fhigh : FitsSigned w128 c.product-at_high.result = search rules in
    rw (to_z-of_z w128 c.product-at_low.result flow, to_z-of_z w128 c.product-at_high.result fhigh) (sym (product-same c.args.coefficient c.args.low c.args.high c.product-at_low.result c.product-at_high.result elow ehigh h))

pub returns-else-coefficient-lt0-clause-point : goal.returns-else-coefficient-lt0-clause-point
returns-else-coefficient-lt0-clause-point c = λ h.
    let elow : c.product-at_low.result ≡ c.args.coefficient *ℤ c.args.low = rw (to_z-of_z w128 c.args.coefficient c.ranges.coefficient, to_z-of_z w128 c.args.low c.ranges.low) at c.product-at_low.ensures in
    let flow : FitsSigned w128 c.product-at_low.result = search rules in
    let ehigh : c.product-at_high.result ≡ c.args.coefficient *ℤ c.args.high = rw (to_z-of_z w128 c.args.coefficient c.ranges.coefficient, to_z-of_z w128 c.args.high c.ranges.high) at c.product-at_high.ensures in
    let fhigh : FitsSigned w128 c.product-at_high.result = search rules in
    rw (to_z-of_z w128 c.product-at_low.result flow, to_z-of_z w128 c.product-at_high.result fhigh) (product-same c.args.coefficient c.args.low c.args.high c.product-at_low.result c.product-at_high.result elow ehigh h)
