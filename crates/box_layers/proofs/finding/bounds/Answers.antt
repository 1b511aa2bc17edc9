use Rattle.std.proofs.Common.{rules, length, pos, FitsSigned, ◌+ℤ◌, ◌≤ℤ◌, slice_index_or, to_z, refl, subst}
use Rattle.std.specs.Int.{w128}
use Rattle.std.proofs.lemmas.Int.{to_z-of_z}
use Rattle.sv_linear.specs.Terms.{terms_value}
use Rattle.box_layers.proofs.BoundLemmas.{bounds-start, side-some, unknown-side, term-fits, sum-requires, sum-fits, between-step, between-end, point-at, point-step}
use Rattle.box_layers.proofs.finding.bounds.Goals as goal

pub loop-unknown-init : goal.loop-unknown-init
loop-unknown-init c =
    let fc : FitsSigned w128 c.args.form.now.constant = search rules in
    let start = bounds-start c.args.sides.now c.args.form.now.coefficients c.as_slice-unknown-items.result.now c.args.form.now.constant c.as_slice-unknown-items.ensures c.requires.fits in
    rw (to_z-of_z w128 c.args.form.now.constant fc) (record { least_fits = start.0; greatest_fits = start.0; between = start.1; point = λ h. refl })

pub side_at-low-requires : goal.side_at-low-requires
side_at-low-requires c =
    unknown-side c.args.form.now.coefficients c.as_slice-unknown-items.result.now c.loop-unknown.unknown-index (length c.args.sides.now) (0, pos 0) c.as_slice-unknown-items.ensures c.loop-unknown-test.true c.requires.unknowns

pub products-at_least-requires-clause-side : goal.products-at_least-requires-clause-side
products-at_least-requires-clause-side c =
    let fl : FitsSigned w128 c.side_at-low.result.0 = search rules in
    let fh : FitsSigned w128 c.side_at-low.result.1 = search rules in
    rw (to_z-of_z w128 c.side_at-low.result.0 fl, to_z-of_z w128 c.side_at-low.result.1 fh) (side-some c.args.sides.now (slice_index_or c.as_slice-unknown-items.result.now c.loop-unknown.unknown-index (0, pos 0)).0 c.side_at-low.result c.requires.some c.side_at-low.ensures)

pub products-at_least-requires-clause-fits : goal.products-at_least-requires-clause-fits
products-at_least-requires-clause-fits c =
    let fc : FitsSigned w128 (slice_index_or c.as_slice-unknown-items.result.now c.loop-unknown.unknown-index (0, pos 0)).1 = search rules in
    let fl : FitsSigned w128 c.side_at-low.result.0 = search rules in
    let fh : FitsSigned w128 c.side_at-low.result.1 = search rules in
    rw (to_z-of_z w128 (slice_index_or c.as_slice-unknown-items.result.now c.loop-unknown.unknown-index (0, pos 0)).1 fc, to_z-of_z w128 c.side_at-low.result.0 fl, to_z-of_z w128 c.side_at-low.result.1 fh) (term-fits c.args.sides.now c.as_slice-unknown-items.result.now c.loop-unknown.unknown-index (slice_index_or c.as_slice-unknown-items.result.now c.loop-unknown.unknown-index (0, pos 0)) c.side_at-low.result (0, pos 0) c.loop-unknown-test.true refl c.side_at-low.ensures (to_z w128 c.loop-unknown.least-bits) c.loop-unknown.invariant.least_fits)

pub plus-least-requires : goal.plus-least-requires
plus-least-requires c =
    let fc : FitsSigned w128 (slice_index_or c.as_slice-unknown-items.result.now c.loop-unknown.unknown-index (0, pos 0)).1 = search rules in
    let fl : FitsSigned w128 c.side_at-low.result.0 = search rules in
    let fh : FitsSigned w128 c.side_at-low.result.1 = search rules in
    let fp : FitsSigned w128 c.products-at_least.result.0 = search rules in
    rw (to_z-of_z w128 c.products-at_least.result.0 fp) (sum-requires c.args.sides.now c.as_slice-unknown-items.result.now c.loop-unknown.unknown-index (slice_index_or c.as_slice-unknown-items.result.now c.loop-unknown.unknown-index (0, pos 0)) c.side_at-low.result (0, pos 0) c.loop-unknown-test.true refl c.side_at-low.ensures (to_z w128 c.loop-unknown.least-bits) c.products-at_least.result.0 c.loop-unknown.invariant.least_fits (rw (to_z-of_z w128 (slice_index_or c.as_slice-unknown-items.result.now c.loop-unknown.unknown-index (0, pos 0)).1 fc, to_z-of_z w128 c.side_at-low.result.0 fl, to_z-of_z w128 c.side_at-low.result.1 fh) at c.products-at_least.ensures.least))

pub plus-greatest-requires : goal.plus-greatest-requires
plus-greatest-requires c =
    let fc : FitsSigned w128 (slice_index_or c.as_slice-unknown-items.result.now c.loop-unknown.unknown-index (0, pos 0)).1 = search rules in
    let fl : FitsSigned w128 c.side_at-low.result.0 = search rules in
    let fh : FitsSigned w128 c.side_at-low.result.1 = search rules in
    let fp : FitsSigned w128 c.products-at_least.result.1 = search rules in
    rw (to_z-of_z w128 c.products-at_least.result.1 fp) (sum-requires c.args.sides.now c.as_slice-unknown-items.result.now c.loop-unknown.unknown-index (slice_index_or c.as_slice-unknown-items.result.now c.loop-unknown.unknown-index (0, pos 0)) c.side_at-low.result (0, pos 0) c.loop-unknown-test.true refl c.side_at-low.ensures (to_z w128 c.loop-unknown.greatest-bits) c.products-at_least.result.1 c.loop-unknown.invariant.greatest_fits (rw (to_z-of_z w128 (slice_index_or c.as_slice-unknown-items.result.now c.loop-unknown.unknown-index (0, pos 0)).1 fc, to_z-of_z w128 c.side_at-low.result.0 fl, to_z-of_z w128 c.side_at-low.result.1 fh) at c.products-at_least.ensures.greatest))

pub loop-unknown-preserved : goal.loop-unknown-preserved
loop-unknown-preserved c =
    let fc : FitsSigned w128 (slice_index_or c.as_slice-unknown-items.result.now c.loop-unknown.unknown-index (0, pos 0)).1 = search rules in
    let fl : FitsSigned w128 c.side_at-low.result.0 = search rules in
    let fh : FitsSigned w128 c.side_at-low.result.1 = search rules in
    let fp : FitsSigned w128 c.products-at_least.result.0 = search rules in
    let fq : FitsSigned w128 c.products-at_least.result.1 = search rules in
    let fr : FitsSigned w128 c.plus-least.result = search rules in
    let fs : FitsSigned w128 c.plus-greatest.result = search rules in
    let el = rw (to_z-of_z w128 c.products-at_least.result.0 fp) at c.plus-least.ensures in
    let eg = rw (to_z-of_z w128 c.products-at_least.result.1 fq) at c.plus-greatest.ensures in
    let al = sum-fits c.args.sides.now c.as_slice-unknown-items.result.now c.loop-unknown.unknown-index (slice_index_or c.as_slice-unknown-items.result.now c.loop-unknown.unknown-index (0, pos 0)) c.side_at-low.result (0, pos 0) c.loop-unknown-test.true refl c.side_at-low.ensures (to_z w128 c.loop-unknown.least-bits) c.products-at_least.result.0 c.loop-unknown.invariant.least_fits (rw (to_z-of_z w128 (slice_index_or c.as_slice-unknown-items.result.now c.loop-unknown.unknown-index (0, pos 0)).1 fc, to_z-of_z w128 c.side_at-low.result.0 fl, to_z-of_z w128 c.side_at-low.result.1 fh) at c.products-at_least.ensures.least) in
    let ag = sum-fits c.args.sides.now c.as_slice-unknown-items.result.now c.loop-unknown.unknown-index (slice_index_or c.as_slice-unknown-items.result.now c.loop-unknown.unknown-index (0, pos 0)) c.side_at-low.result (0, pos 0) c.loop-unknown-test.true refl c.side_at-low.ensures (to_z w128 c.loop-unknown.greatest-bits) c.products-at_least.result.1 c.loop-unknown.invariant.greatest_fits (rw (to_z-of_z w128 (slice_index_or c.as_slice-unknown-items.result.now c.loop-unknown.unknown-index (0, pos 0)).1 fc, to_z-of_z w128 c.side_at-low.result.0 fl, to_z-of_z w128 c.side_at-low.result.1 fh) at c.products-at_least.ensures.greatest) in
    rw (to_z-of_z w128 c.plus-least.result fr, to_z-of_z w128 c.plus-greatest.result fs) (record {
      least_fits = rw el al.1;
      greatest_fits = rw eg ag.1;
      between = between-step c.args.sides.now c.as_slice-unknown-items.result.now c.loop-unknown.unknown-index (slice_index_or c.as_slice-unknown-items.result.now c.loop-unknown.unknown-index (0, pos 0)) c.side_at-low.result (0, pos 0) c.loop-unknown-test.true refl c.side_at-low.ensures (λ x. terms_value x c.args.form.now.coefficients +ℤ c.args.form.now.constant) (to_z w128 c.loop-unknown.least-bits) (to_z w128 c.loop-unknown.greatest-bits) c.products-at_least.result.0 c.products-at_least.result.1 c.plus-least.result c.plus-greatest.result el eg
          (rw (to_z-of_z w128 (slice_index_or c.as_slice-unknown-items.result.now c.loop-unknown.unknown-index (0, pos 0)).1 fc, to_z-of_z w128 c.side_at-low.result.0 fl, to_z-of_z w128 c.side_at-low.result.1 fh) at c.products-at_least.ensures.between) c.loop-unknown.invariant.between;
      point = λ h. point-step (to_z w128 c.loop-unknown.least-bits) (to_z w128 c.loop-unknown.greatest-bits) c.products-at_least.result.0 c.products-at_least.result.1 c.plus-least.result c.plus-greatest.result (c.loop-unknown.invariant.point h)
          ((rw (to_z-of_z w128 c.side_at-low.result.0 fl, to_z-of_z w128 c.side_at-low.result.1 fh) at c.products-at_least.ensures.point) (point-at c.args.sides.now (slice_index_or c.as_slice-unknown-items.result.now c.loop-unknown.unknown-index (0, pos 0)).0 c.side_at-low.result h c.side_at-low.ensures)) el eg;
    })

pub returns-clause-between : goal.returns-clause-between
returns-clause-between c = λ x w.
    let b = c.loop-unknown.invariant.between x w in (
      subst (λ z. z ≤ℤ (terms_value x c.args.form.now.coefficients +ℤ c.args.form.now.constant)) (between-end c.as_slice-unknown-items.result.now c.loop-unknown.unknown-index x (to_z w128 c.loop-unknown.least-bits) c.loop-unknown-test.false) b.0,
      subst (λ z. (terms_value x c.args.form.now.coefficients +ℤ c.args.form.now.constant) ≤ℤ z) (between-end c.as_slice-unknown-items.result.now c.loop-unknown.unknown-index x (to_z w128 c.loop-unknown.greatest-bits) c.loop-unknown-test.false) b.1,
    )

pub returns-clause-point : goal.returns-clause-point
returns-clause-point c = c.loop-unknown.invariant.point
