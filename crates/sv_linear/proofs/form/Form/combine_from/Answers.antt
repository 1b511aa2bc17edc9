use Rattle.std.proofs.Common.{rules}
use Rattle.std.specs.Int.{w128}
use Rattle.std.proofs.lemmas.Int.{to_z-of_z}
use Rattle.std.proofs.lemmas.Result.{err_from_is_err_and}
use mir.Val.{SFits}
use Rattle.sv_linear.specs.Combining.{FitsFrom}
use Rattle.sv_linear.specs.Forms.{entry}
use Rattle.sv_linear.proofs.Homogeneous.{hom_combined}
use Rattle.sv_linear.proofs.Refusals.{merge_refusal, each_column, constant_refusal}
use Rattle.sv_linear.proofs.form.Form.combine_from.Goals as goal

pub returns-in_err-terms-clause-outside : goal.returns-in_err-terms-clause-outside
returns-in_err-terms-clause-outside c =
    let l = to_z-of_z w128 c.args.least c.ranges.least in
    let p = to_z-of_z w128 c.args.by c.ranges.by in
    let q = to_z-of_z w128 c.args.other_by c.ranges.other_by in
    let exit = err_from_is_err_and c.from_residual.result c.from_residual.ensures.1 in
    rw (exit.1, exit.2)
    (merge_refusal (λ c'. FitsFrom c.args.least c.args.by (entry c' c.args.self.now) c.args.other_by (entry c' c.args.other.now)) c.in_err-terms.field-0.0
    (rw (l, p, q, c.as_slice.ensures, c.as_slice-2.ensures) at c.in_err-terms.ensures.past))

pub returns-in_default-clause-outside : goal.returns-in_default-clause-outside
returns-in_default-clause-outside c =
    let l = to_z-of_z w128 c.args.least c.ranges.least in
    let p = to_z-of_z w128 c.args.by c.ranges.by in
    let q = to_z-of_z w128 c.args.other_by c.ranges.other_by in
    let ff : SFits w128 c.args.self.now.constant = search rules in
    let fg : SFits w128 c.args.other.now.constant = search rules in
    constant_refusal (λ c'. FitsFrom c.args.least c.args.by (entry c' c.args.self.now) c.args.other_by (entry c' c.args.other.now))
    (λ u. rw (l, p, q, c.as_slice.ensures, c.as_slice-2.ensures) at (c.in_ok-terms.ensures.fits u))
    (rw (l, p, to_z-of_z w128 _ ff, q, to_z-of_z w128 _ fg) at c.in_default.ensures)

pub returns-clause-value : goal.returns-clause-value
returns-clause-value c = λ x d.
    let l = to_z-of_z w128 c.args.least c.ranges.least in
    let p = to_z-of_z w128 c.args.by c.ranges.by in
    let q = to_z-of_z w128 c.args.other_by c.ranges.other_by in
    let ff : SFits w128 c.args.self.now.constant = search rules in
    let fg : SFits w128 c.args.other.now.constant = search rules in
    let terms = rw (p, q, c.as_slice.ensures, c.as_slice-2.ensures) at (c.in_ok-terms.ensures.value x) in
    let constant = rw (l, p, to_z-of_z w128 _ ff, q, to_z-of_z w128 _ fg) at c.in-Some.ensures in
    let fk : SFits w128 c.in-Some.constant = rw constant.1 constant.0.1.1.1 in
    rw (c.fit_capacity.ensures, to_z-of_z w128 _ fk) (hom_combined _ _ _ _ _ _ _ _ d terms constant.1)

pub returns-clause-outside : goal.returns-clause-outside
returns-clause-outside c =
    let l = to_z-of_z w128 c.args.least c.ranges.least in
    let p = to_z-of_z w128 c.args.by c.ranges.by in
    let q = to_z-of_z w128 c.args.other_by c.ranges.other_by in
    let ff : SFits w128 c.args.self.now.constant = search rules in
    let fg : SFits w128 c.args.other.now.constant = search rules in
    let constant = rw (l, p, to_z-of_z w128 _ ff, q, to_z-of_z w128 _ fg) at c.in-Some.ensures in
    each_column (λ c'. FitsFrom c.args.least c.args.by (entry c' c.args.self.now) c.args.other_by (entry c' c.args.other.now))
    (λ u. rw (l, p, q, c.as_slice.ensures, c.as_slice-2.ensures) at (c.in_ok-terms.ensures.fits u)) constant.0
