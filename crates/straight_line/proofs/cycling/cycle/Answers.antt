use Rattle.std.proofs.Common.{◌≡◌, ◌∙◌, ap, subst, sym, length, ◌<◌, ◌≤◌, arith, Some, None, get_or, drop}
use Rattle.std.proofs.lemmas.Result.{IfOk-weaker}
use Rattle.std.specs.Prelude.{slice_set}
use Rattle.flat_cubes.specs.Flattening.{IsCycle}
use Rattle.straight_line.proofs.Traced.{IsTraced, ahead_within, traced_cycle, traced_none, traced_on, unseen, unseen_less}
use Rattle.straight_line.proofs.cycling.cycle.Goals as goal

pub copy_from-requires : goal.copy_from-requires
copy_from-requires c =
    let e : get_or c.loop-at.seen c.loop-at.at None ≡ Some c.in-Some.place = ap (λ z. get_or z c.loop-at.at None) (sym c.as_slice.ensures) ∙ c.in-Some.is in
    let l = (c.loop-at.invariant.on c.loop-at.at c.in-Some.place e).0 in
    let m : c.in-Some.place ≤ length c.loop-at.path = omega arith in
    subst (λ z. c.in-Some.place ≤ length z) (sym c.as_slice-in-Some.ensures) m

pub returns-in-Some : goal.returns-in-Some
returns-in-Some c =
    let e : get_or c.loop-at.seen c.loop-at.at None ≡ Some c.in-Some.place = ap (λ z. get_or z c.loop-at.at None) (sym c.as_slice.ensures) ∙ c.in-Some.is in
    IfOk-weaker c.copy_from.result _ (IsCycle c.args.definitions.now) (λ vs h. subst (IsCycle c.args.definitions.now) (sym (h ∙ ap (λ z. drop c.in-Some.place z) c.as_slice-in-Some.ensures)) (traced_cycle c.args.definitions.now c.args.ahead.now c.loop-at.path c.loop-at.seen c.loop-at.at c.in-Some.place c.loop-at.invariant e)) c.copy_from.ensures

pub loop-at-smaller : goal.loop-at-smaller
loop-at-smaller c =
    let l = ahead_within c.args.ahead.now c.loop-at.at c.loop-at.invariant.is_ahead in
    let n = c.loop-at.invariant.count in
    let inside : c.loop-at.at < length c.loop-at.seen = omega arith in
    subst (λ z. unseen z < unseen c.loop-at.seen) (sym c.set.ensures) (unseen_less c.loop-at.seen c.loop-at.at c.len.result inside (ap (λ z. get_or z c.loop-at.at None) (sym c.as_slice.ensures) ∙ c.in_default.is))

pub loop-at-preserved : goal.loop-at-preserved
loop-at-preserved c = traced_on c.args.definitions.now c.args.ahead.now c.loop-at.path c.push.new.self c.loop-at.seen c.set.new.self c.loop-at.at c.next-at.result c.loop-at.invariant c.in_ok-push.ensures.ok (c.set.ensures ∙ ap (λ z. slice_set c.loop-at.seen c.loop-at.at (Some z)) c.len.ensures) c.next-at.ensures.ahead c.next-at.ensures.uses

pub set-requires : goal.set-requires
set-requires c = subst (λ n. c.loop-at.at < n) (sym c.loop-at.invariant.count) (ahead_within c.args.ahead.now c.loop-at.at c.loop-at.invariant.is_ahead)

pub next-at-requires-clause-within : goal.next-at-requires-clause-within
next-at-requires-clause-within c = c.requires.within

pub next-at-requires-clause-count : goal.next-at-requires-clause-count
next-at-requires-clause-count c = c.requires.count

pub next-at-requires-clause-places : goal.next-at-requires-clause-places
next-at-requires-clause-places c = c.requires.places

pub next-at-requires-clause-closed : goal.next-at-requires-clause-closed
next-at-requires-clause-closed c = c.requires.closed

pub next-at-requires-clause-ahead : goal.next-at-requires-clause-ahead
next-at-requires-clause-ahead c = c.loop-at.invariant.is_ahead

pub bounds-as_slice-at : goal.bounds-as_slice-at
bounds-as_slice-at c = subst (λ z. c.loop-at.at < length z) (sym c.as_slice.ensures) (subst (λ n. c.loop-at.at < n) (sym c.loop-at.invariant.count) (ahead_within c.args.ahead.now c.loop-at.at c.loop-at.invariant.is_ahead))

pub loop-at-init : goal.loop-at-init
loop-at-init c = subst (λ z. IsTraced c.args.definitions.now c.args.ahead.now z c.in_ok-seen.seen c.args.start) (sym c.new-path.ensures) (traced_none c.args.definitions.now c.args.ahead.now c.in_ok-seen.seen c.args.start c.in_ok-seen.ensures c.requires.start)
