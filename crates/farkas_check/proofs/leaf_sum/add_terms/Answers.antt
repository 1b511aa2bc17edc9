use Rattle.std.proofs.Common.{rules, ◌+◌, pos, length, take, get_or, ap, sym, ◌∙◌, subst, arith}
use Rattle.std.specs.Int.{w128}
use Rattle.std.proofs.lemmas.Int.{to_z-of_z}
use Rattle.std.proofs.lemmas.List.{take_all}
use mir.Val.{SFits}
use Rattle.farkas_check.specs.Sums.{AreColumnsAdded}
use Rattle.farkas_check.proofs.Dense.{term_below, added_more, not_added, set_length}
use Rattle.farkas_check.proofs.leaf_sum.add_terms.Goals as goal

pub bounds-as_slice-at : goal.bounds-as_slice-at
bounds-as_slice-at c =
    let low = term_below 0 (length c.args.numbers.now) c.args.terms.now c.loop-unknown.unknown-index c.requires.ascends c.loop-unknown-test.true in
    omega (arith, low, c.loop-unknown.invariant.size, ap length c.as_slice.ensures)

pub set-requires : goal.set-requires
set-requires c =
    let low = term_below 0 (length c.args.numbers.now) c.args.terms.now c.loop-unknown.unknown-index c.requires.ascends c.loop-unknown-test.true in
    omega (arith, low, c.loop-unknown.invariant.size)

pub returns-in-None-clause-past : goal.returns-in-None-clause-past
returns-in-None-clause-past c = λ t.
    let by = to_z-of_z w128 c.args.by c.ranges.by in
    let fn : SFits w128 (get_or c.as_slice.result.now (get_or c.args.terms.now c.loop-unknown.unknown-index (0, pos 0)).0 (pos 0)) = search rules in
    let ft : SFits w128 (get_or c.args.terms.now c.loop-unknown.unknown-index (0, pos 0)).1 = search rules in
    let i = rw (to_z-of_z w128 _ fn, to_z-of_z w128 _ ft, by, c.as_slice.ensures) at c.in-None.ensures in
    let s = rw by at c.loop-unknown.invariant.added in
    not_added c.args.numbers.now c.args.terms.now (length c.args.numbers.now) c.loop-unknown.unknown-index c.args.by c.loop-unknown.numbers c.requires.ascends c.loop-unknown-test.true s i

pub loop-unknown-preserved : goal.loop-unknown-preserved
loop-unknown-preserved c =
    let by = to_z-of_z w128 c.args.by c.ranges.by in
    let fn : SFits w128 (get_or c.as_slice.result.now (get_or c.args.terms.now c.loop-unknown.unknown-index (0, pos 0)).0 (pos 0)) = search rules in
    let ft : SFits w128 (get_or c.args.terms.now c.loop-unknown.unknown-index (0, pos 0)).1 = search rules in
    let i = rw (to_z-of_z w128 _ fn, to_z-of_z w128 _ ft, by, c.as_slice.ensures) at c.in-Some.ensures in
    let s = rw by at c.loop-unknown.invariant.added in
    let fs : SFits w128 c.in-Some.next = rw i.is i.sum_fits in
    let set = rw (to_z-of_z w128 _ fs) at c.set.ensures in
    let low = term_below 0 (length c.args.numbers.now) c.args.terms.now c.loop-unknown.unknown-index c.requires.ascends c.loop-unknown-test.true in
    let size = c.loop-unknown.invariant.size in
    rw by
    (record {
      size = ap length set ∙ set_length c.loop-unknown.numbers (get_or c.args.terms.now c.loop-unknown.unknown-index (0, pos 0)).0 c.in-Some.next ∙ size;
      added = subst (AreColumnsAdded c.args.numbers.now (take (c.loop-unknown.unknown-index + 1) c.args.terms.now) c.args.by) (sym set)
          (added_more c.args.numbers.now c.args.terms.now (length c.args.numbers.now) c.loop-unknown.unknown-index c.args.by c.loop-unknown.numbers c.requires.ascends c.loop-unknown-test.true s c.in-Some.next (omega (arith, low, size)) i);
    })

pub returns-clause-added : goal.returns-clause-added
returns-clause-added c = λ t.
    let s = rw (to_z-of_z w128 c.args.by c.ranges.by) at c.loop-unknown.invariant.added in
    subst (λ l. AreColumnsAdded c.args.numbers.now l c.args.by c.loop-unknown.numbers) (take_all c.loop-unknown.unknown-index c.args.terms.now (omega (arith, c.loop-unknown-test.false))) s
