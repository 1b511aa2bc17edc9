use Rattle.std.proofs.Common.{rules}
use Rattle.std.specs.Int.{w128}
use Rattle.std.proofs.lemmas.Int.{to_z-of_z}
use mir.Val.{SFits}
use Rattle.sv_linear.specs.declared.column.Column.TheVariants.{Unknown}
use Rattle.farkas_check.proofs.LeafSums.{columns_added}
use Rattle.farkas_check.proofs.leaf_sum.add_multiple.Goals as goal

pub add_terms-requires-clause-fits : goal.add_terms-requires-clause-fits
add_terms-requires-clause-fits c = λ u. c.requires.fits (Unknown u)

pub returns-in-Some-clause-added : goal.returns-in-Some-clause-added
returns-in-Some-clause-added c = λ t.
    let by = to_z-of_z w128 c.args.by c.ranges.by in
    let fs : SFits w128 c.args.sum.now.constant = search rules in
    let ff : SFits w128 c.args.form.now.constant = search rules in
    let i = rw (to_z-of_z w128 _ fs, to_z-of_z w128 _ ff, by) at c.in-Some.ensures in
    let fc : SFits w128 c.in-Some.constant = rw i.is i.sum_fits in
    let a = rw (by, c.as_slice.ensures) at c.add_terms.ensures.added in
    rw (to_z-of_z w128 _ fc) (columns_added c.args.sum.now c.args.form.now c.args.by c.add_terms.new.numbers c.in-Some.constant (a t) i)

pub returns-in-Some-clause-past : goal.returns-in-Some-clause-past
returns-in-Some-clause-past c = λ f.
    let by = to_z-of_z w128 c.args.by c.ranges.by in
    let a = rw (by, c.as_slice.ensures) at c.add_terms.ensures.past in
    let n = a f in
    record { column = Unknown n.0; outside = n.1 }
