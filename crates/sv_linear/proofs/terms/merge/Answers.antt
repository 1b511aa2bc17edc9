use Rattle.std.proofs.Common.{rules, arith, ◌<◌, sym, unsigned_abs}
use Rattle.std.specs.Int.{w128}
use Rattle.std.proofs.lemmas.Int.{ints, to_z-of_z}
use mir.Val.{SFits}
use Rattle.sv_linear.proofs.Merging.{refused_first, merging-smaller, merging-more, merging-gone, merging-all}
use Rattle.sv_linear.proofs.terms.merge.Goals as goal

pub returns-in_default-combine_numbers-clause-past : goal.returns-in_default-combine_numbers-clause-past
returns-in_default-combine_numbers-clause-past c =
    let l = to_z-of_z w128 c.args.least c.ranges.least in
    let p = to_z-of_z w128 c.args.p c.ranges.p in
    let q = to_z-of_z w128 c.args.q c.ranges.q in
    let fl : SFits w128 c.split_at_unknown-left_here.result.0 = search rules in
    let fr : SFits w128 c.split_at_unknown-right_here.result.0 = search rules in
    refused_first c.args.least c.args.p c.args.a.now c.args.q c.args.b.now c.loop-unknown.sums.items c.loop-unknown.left.now c.loop-unknown.right.now c.in-Some.unknown c.requires.least
    (rw (l, p, q) at c.loop-unknown.invariant) (sym c.in-Some.ensures)
    (rw (l, p, q, to_z-of_z w128 _ fl, to_z-of_z w128 _ fr, c.split_at_unknown-left_here.ensures.here, c.split_at_unknown-right_here.ensures.here) at c.in_default-combine_numbers.ensures)

pub loop-unknown-smaller-in_ok-push : goal.loop-unknown-smaller-in_ok-push
loop-unknown-smaller-in_ok-push c =
    let l = to_z-of_z w128 c.args.least c.ranges.least in
    let p = to_z-of_z w128 c.args.p c.ranges.p in
    let q = to_z-of_z w128 c.args.q c.ranges.q in
    rw (c.split_at_unknown-left_here.ensures.rest, c.split_at_unknown-right_here.ensures.rest)
    (merging-smaller c.args.least c.args.p c.args.a.now c.args.q c.args.b.now c.loop-unknown.sums.items c.loop-unknown.left.now c.loop-unknown.right.now c.in-Some.unknown c.requires.least
    (rw (l, p, q) at c.loop-unknown.invariant) (sym c.in-Some.ensures))

pub loop-unknown-smaller : goal.loop-unknown-smaller
loop-unknown-smaller c =
    let l = to_z-of_z w128 c.args.least c.ranges.least in
    let p = to_z-of_z w128 c.args.p c.ranges.p in
    let q = to_z-of_z w128 c.args.q c.ranges.q in
    rw (c.split_at_unknown-left_here.ensures.rest, c.split_at_unknown-right_here.ensures.rest)
    (merging-smaller c.args.least c.args.p c.args.a.now c.args.q c.args.b.now c.loop-unknown.sums.items c.loop-unknown.left.now c.loop-unknown.right.now c.in-Some.unknown c.requires.least
    (rw (l, p, q) at c.loop-unknown.invariant) (sym c.in-Some.ensures))

pub loop-unknown-preserved-in_ok-push : goal.loop-unknown-preserved-in_ok-push
loop-unknown-preserved-in_ok-push c =
    let l = to_z-of_z w128 c.args.least c.ranges.least in
    let p = to_z-of_z w128 c.args.p c.ranges.p in
    let q = to_z-of_z w128 c.args.q c.ranges.q in
    let fl : SFits w128 c.split_at_unknown-left_here.result.0 = search rules in
    let fr : SFits w128 c.split_at_unknown-right_here.result.0 = search rules in
    let e = rw (l, p, q, to_z-of_z w128 _ fl, to_z-of_z w128 _ fr, c.split_at_unknown-left_here.ensures.here, c.split_at_unknown-right_here.ensures.here) at c.in-Some-combine_numbers.ensures in
    let fs : SFits w128 c.in-Some-combine_numbers.sum = rw e.1 e.0.1.1.1 in
    let some : 0 < unsigned_abs c.in-Some-combine_numbers.sum = omega (arith, ints) in
    rw (l, p, q, c.split_at_unknown-left_here.ensures.rest, c.split_at_unknown-right_here.ensures.rest)
    (merging-more c.args.least c.args.p c.args.a.now c.args.q c.args.b.now c.loop-unknown.sums.items c.loop-unknown.left.now c.loop-unknown.right.now c.in-Some.unknown c.requires.least
    (rw (l, p, q) at c.loop-unknown.invariant) (sym c.in-Some.ensures) c.in-Some-combine_numbers.sum e.1 e.0 c.push.new.self.items some (rw (to_z-of_z w128 _ fs) at c.in_ok-push.ensures.items))

pub loop-unknown-preserved : goal.loop-unknown-preserved
loop-unknown-preserved c =
    let l = to_z-of_z w128 c.args.least c.ranges.least in
    let p = to_z-of_z w128 c.args.p c.ranges.p in
    let q = to_z-of_z w128 c.args.q c.ranges.q in
    let fl : SFits w128 c.split_at_unknown-left_here.result.0 = search rules in
    let fr : SFits w128 c.split_at_unknown-right_here.result.0 = search rules in
    let e = rw (l, p, q, to_z-of_z w128 _ fl, to_z-of_z w128 _ fr, c.split_at_unknown-left_here.ensures.here, c.split_at_unknown-right_here.ensures.here) at c.in-Some-combine_numbers.ensures in
    let fs : SFits w128 c.in-Some-combine_numbers.sum = rw e.1 e.0.1.1.1 in
    rw (l, p, q, c.split_at_unknown-left_here.ensures.rest, c.split_at_unknown-right_here.ensures.rest)
    (merging-gone c.args.least c.args.p c.args.a.now c.args.q c.args.b.now c.loop-unknown.sums.items c.loop-unknown.left.now c.loop-unknown.right.now c.in-Some.unknown c.requires.least
    (rw (l, p, q) at c.loop-unknown.invariant) (sym c.in-Some.ensures) c.in-Some-combine_numbers.sum e.1 e.0 (omega (arith, ints)))

pub returns-clause-value : goal.returns-clause-value
returns-clause-value c =
    let l = to_z-of_z w128 c.args.least c.ranges.least in
    let p = to_z-of_z w128 c.args.p c.ranges.p in
    let q = to_z-of_z w128 c.args.q c.ranges.q in
    (merging-all c.args.least c.args.p c.args.a.now c.args.q c.args.b.now c.loop-unknown.sums.items c.loop-unknown.left.now c.loop-unknown.right.now c.requires.least (rw (l, p, q) at c.loop-unknown.invariant) (sym c.in_default.ensures)).value

pub returns-clause-ascending : goal.returns-clause-ascending
returns-clause-ascending c =
    let l = to_z-of_z w128 c.args.least c.ranges.least in
    let p = to_z-of_z w128 c.args.p c.ranges.p in
    let q = to_z-of_z w128 c.args.q c.ranges.q in
    (merging-all c.args.least c.args.p c.args.a.now c.args.q c.args.b.now c.loop-unknown.sums.items c.loop-unknown.left.now c.loop-unknown.right.now c.requires.least (rw (l, p, q) at c.loop-unknown.invariant) (sym c.in_default.ensures)).ascending

pub returns-clause-fits : goal.returns-clause-fits
returns-clause-fits c =
    let l = to_z-of_z w128 c.args.least c.ranges.least in
    let p = to_z-of_z w128 c.args.p c.ranges.p in
    let q = to_z-of_z w128 c.args.q c.ranges.q in
    (merging-all c.args.least c.args.p c.args.a.now c.args.q c.args.b.now c.loop-unknown.sums.items c.loop-unknown.left.now c.loop-unknown.right.now c.requires.least (rw (l, p, q) at c.loop-unknown.invariant) (sym c.in_default.ensures)).fits
