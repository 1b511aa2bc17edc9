use Rattle.std.proofs.Common.{◌≡◌, ◌-◌, get_or, length, subst, arith}
use Rattle.trim_search.proofs.RestLemmas.{IsFollowingBack, read-in, back-start, back-next, back-end, back-smaller, marked-from}
use Rattle.trim_search.proofs.rests.mark_sources.Goals as goal

pub loop-next-init : goal.loop-next-init
loop-next-init c =
    let next = get_or c.as_slice.result.now c.args.state 0 in
    let rows = c.requires.incoming.rows in
    let state = c.requires.state in
    back-start c.args.edges.now c.args.state next c.args.marks.now c.args.found.now c.requires.listed
    (c.requires.incoming.to c.args.state next (read-in c.args.incoming.now.last c.as_slice.result.now c.args.state c.as_slice.ensures (omega arith)))

pub offset_bounds-edges-place : goal.offset_bounds-edges-place
offset_bounds-edges-place c = let w = c.loop-next.invariant.within in let t = c.loop-next-test.true in omega arith

pub bounds-edges-place : goal.bounds-edges-place
bounds-edges-place c = let w = c.loop-next.invariant.within in let t = c.loop-next-test.true in omega arith

pub bounds-edges-place-in-loop-next : goal.bounds-edges-place-in-loop-next
bounds-edges-place-in-loop-next c = let w = c.loop-next.invariant.within in let t = c.loop-next-test.true in omega arith

pub mark-requires-clause-state : goal.mark-requires-clause-state
mark-requires-clause-state c =
    let w = c.loop-next.invariant.within in
    let t = c.loop-next-test.true in
    rw c.loop-next.invariant.marked.size (marked-from c.args.edges.now (c.loop-next.next - 1) c.index-edges-place.result (length c.args.marks.now) (omega arith) c.requires.from)

pub mark-requires-clause-listed : goal.mark-requires-clause-listed
mark-requires-clause-listed c = c.loop-next.invariant.marked.listed

pub offset_bounds-as_slice-place : goal.offset_bounds-as_slice-place
offset_bounds-as_slice-place c = let w = c.loop-next.invariant.within in let t = c.loop-next-test.true in omega arith

pub bounds-as_slice-place : goal.bounds-as_slice-place
bounds-as_slice-place c = let w = c.loop-next.invariant.within in let t = c.loop-next-test.true in let s = c.requires.incoming.size in rw c.as_slice-in-loop-next.ensures (omega arith)

pub loop-next-preserved : goal.loop-next-preserved
loop-next-preserved c =
    back-next (length c.args.marks.now) c.args.edges.now c.args.incoming.now.last c.args.incoming.now.before c.args.state c.loop-next.next c.args.marks.now c.loop-next.marks c.mark.new.marks
    c.args.found.now c.loop-next.found c.mark.new.found c.index-edges-place.result c.as_slice-in-loop-next.result.now c.requires.incoming c.loop-next.invariant c.loop-next-test.true c.as_slice-in-loop-next.ensures c.in_ok-mark.ensures

pub loop-next-smaller : goal.loop-next-smaller
loop-next-smaller c =
    back-smaller (length c.args.marks.now) c.args.edges.now c.args.incoming.now.last c.args.incoming.now.before c.loop-next.next c.index-edges-place.result c.as_slice-in-loop-next.result.now
    c.requires.incoming c.loop-next.invariant.within c.loop-next-test.true c.as_slice-in-loop-next.ensures

pub returns : goal.returns
returns c =
    let none : c.loop-next.next ≡ 0 = (let t = c.loop-next-test.false in omega arith) in
    back-end c.args.edges.now c.args.state c.args.marks.now c.loop-next.marks c.args.found.now c.loop-next.found
    (subst (λ n. IsFollowingBack c.args.edges.now c.args.state n c.args.marks.now c.args.found.now c.loop-next.marks c.loop-next.found) none c.loop-next.invariant)
