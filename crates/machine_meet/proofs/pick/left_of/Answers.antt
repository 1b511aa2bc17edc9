use Rattle.std.proofs.Common.{◌≡◌, ◌<◌, ◌≤◌, length, get_or, slice_get, Some, sym, ap, subst, arith}
use Rattle.std.proofs.lemmas.Option.{get_or_from_slice_get, slice_get_within}
use Rattle.machine_meet.proofs.PickLemmas.{left-next, left-all, none-left, above}
use Rattle.machine_meet.proofs.PlaceLemmas.{count-push}
use Rattle.machine_meet.proofs.pick.left_of.Goals as goal

pub loop-register-preserved : goal.loop-register-preserved
loop-register-preserved c =
    let inv = c.loop-register.invariant in
    let at : slice_get c.args.part.now c.loop-register.register ≡ Some c.in-Some.taken.now = sym (rw c.as_slice.ensures at c.in-Some.ensures) in
    let sub = c.in-Some-checked_sub.ensures in
    let below = sub.0 in
    let left = sub.1 in
    record {
      count = count-push c.loop-register.rest c.push.new.self c.in-Some-checked_sub.left c.loop-register.register inv.count c.in_ok-push.ensures.ok;
      sum = λ e. left-next c.args.whole.now c.args.part.now c.loop-register.rest c.push.new.self c.loop-register.register c.in-Some.taken.now c.in-Some-checked_sub.left (get_or c.as_slice-entry-items.result.now c.loop-register.register 0)
          (subst (λ l. c.loop-register.register < length l) c.as_slice-entry-items.ensures c.loop-register-test.true)
          (slice_get_within c.args.part.now c.loop-register.register c.in-Some.taken.now at) inv.count (sym (get_or_from_slice_get c.args.part.now c.loop-register.register c.in-Some.taken.now 0 at))
          (ap (λ l. get_or l c.loop-register.register 0) c.as_slice-entry-items.ensures) (omega arith) c.in_ok-push.ensures.ok (inv.sum e);
    }

pub returns : goal.returns
returns c = λ e.
    let low = subst (λ l. length l ≤ c.loop-register.register) c.as_slice-entry-items.ensures c.loop-register-test.false in
    let high = subst (λ l. c.loop-register.register ≤ length l) c.as_slice-entry-items.ensures c.loop-register.auto.register-end in
    left-all c.args.whole.now c.args.part.now c.loop-register.rest c.loop-register.register low high c.loop-register.invariant.count e (c.loop-register.invariant.sum e)

pub returns-in_default-checked_sub : goal.returns-in_default-checked_sub
returns-in_default-checked_sub c = λ e rest is.
    let at : slice_get c.args.part.now c.loop-register.register ≡ Some c.in-Some.taken.now = sym (rw c.as_slice.ensures at c.in-Some.ensures) in
    let low : get_or c.args.part.now c.loop-register.register 0 ≡ c.in-Some.taken.now = get_or_from_slice_get c.args.part.now c.loop-register.register c.in-Some.taken.now 0 at in
    let high = ap (λ l. get_or l c.loop-register.register 0) c.as_slice-entry-items.ensures in
    let over = above c.in-Some.taken.now (get_or c.as_slice-entry-items.result.now c.loop-register.register 0) c.in_default-checked_sub.ensures in
    let lt : get_or c.args.whole.now c.loop-register.register 0 < get_or c.args.part.now c.loop-register.register 0 = omega arith in
    none-left c.args.whole.now c.args.part.now c.loop-register.register e lt rest is
