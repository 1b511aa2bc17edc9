use Rattle.std.proofs.Common.{◌≡◌, [], ◌<◌, ◌-◌, suc, drop, length, subst, sym, arith}
use Rattle.machine_meet.specs.Products.{AreEndCosts}
use Rattle.machine_meet.proofs.ProductLemmas.{states-length, states-at}
use Rattle.machine_meet.proofs.SumLemmas.{ends-start, ends-at, ends-stuck, can-end-at}
use Rattle.machine_meet.proofs.sums.end_product.Goals as goal

pub loop-i-init : goal.loop-i-init
loop-i-init g c = record {
  room = omega arith;
  exact = ends-start g.P.Machine.ends_with c.args.width c.args.parts.now c.args.at.now c.push.new.self (states-length g.P.Machine.is_state c.args.parts.now c.args.at.now c.requires.states) (rw (c.new-all.ensures, c.in_ok-zeros.ensures) at c.in_ok-push.ensures.ok);
}

pub offset_bounds-at-i : goal.offset_bounds-at-i
offset_bounds-at-i g c =
    let same = states-length g.P.Machine.is_state c.args.parts.now c.args.at.now c.requires.states in
    let room = c.loop-i.invariant.room in
    let positive = c.loop-i-test.true in
    omega arith

pub bounds-at-i : goal.bounds-at-i
bounds-at-i g c =
    let same = states-length g.P.Machine.is_state c.args.parts.now c.args.at.now c.requires.states in
    let room = c.loop-i.invariant.room in
    let positive = c.loop-i-test.true in
    omega arith

pub ends-requires : goal.ends-requires
ends-requires g c =
    let room = c.loop-i.invariant.room in
    let positive = c.loop-i-test.true in
    states-at g.P.Machine.is_state c.args.parts.now c.args.at.now (c.loop-i.i - 1) c.index-parts-i.result c.index-at-i.result c.requires.states (omega arith) c.index-parts-i.is c.index-at-i.is

pub sum_all-requires : goal.sum_all-requires
sum_all-requires g c =
    let inv = c.loop-i.invariant in
    let positive = c.loop-i-test.true in
    let lt : c.loop-i.i - 1 < length c.args.parts.now = omega arith in
    let next : suc (c.loop-i.i - 1) ≡ c.loop-i.i = omega arith in
    let tail = subst (λ n. AreEndCosts g.P.Machine.ends_with c.args.width (drop n c.args.parts.now) (drop n c.args.at.now) c.loop-i.all) (sym next) inv.exact in
    rw (c.as_slice.ensures, c.as_slice-in-loop-i.ensures) (can-end-at g.P.Machine.is_state g.P.Machine.ends_with g.P.Machine.width g.P.Machine.top g.met.P.Machine.end_cost c.args.width c.args.parts.now c.requires.width c.requires.fits
    c.args.at.now c.requires.states (c.loop-i.i - 1) c.index-parts-i.result c.index-at-i.result lt c.index-parts-i.is c.index-at-i.is
    c.in_ok-heads.heads c.loop-i.all c.in_ok-heads.ensures tail)

pub loop-i-preserved : goal.loop-i-preserved
loop-i-preserved g c =
    let inv = c.loop-i.invariant in
    let positive = c.loop-i-test.true in
    let lt : c.loop-i.i - 1 < length c.args.parts.now = omega arith in
    let next : suc (c.loop-i.i - 1) ≡ c.loop-i.i = omega arith in
    let tail = subst (λ n. AreEndCosts g.P.Machine.ends_with c.args.width (drop n c.args.parts.now) (drop n c.args.at.now) c.loop-i.all) (sym next) inv.exact in
    let sums = rw (c.as_slice.ensures, c.as_slice-in-loop-i.ensures) at c.in_ok-all.ensures in
    record {
      room = omega arith;
      exact = ends-at g.P.Machine.ends_with c.args.width c.args.parts.now c.args.at.now (c.loop-i.i - 1) c.index-parts-i.result c.index-at-i.result c.in_ok-heads.heads c.loop-i.all c.in_ok-all.all
          lt (states-length g.P.Machine.is_state c.args.parts.now c.args.at.now c.requires.states) c.index-parts-i.is c.index-at-i.is c.in_ok-heads.ensures tail sums;
    }

pub returns-then-is_empty : goal.returns-then-is_empty
returns-then-is_empty g c =
    let inv = c.loop-i.invariant in
    let positive = c.loop-i-test.true in
    let lt : c.loop-i.i - 1 < length c.args.parts.now = omega arith in
    let next : suc (c.loop-i.i - 1) ≡ c.loop-i.i = omega arith in
    let tail = subst (λ n. AreEndCosts g.P.Machine.ends_with c.args.width (drop n c.args.parts.now) (drop n c.args.at.now) c.loop-i.all) (sym next) inv.exact in
    let sums = rw (c.as_slice.ensures, c.as_slice-in-loop-i.ensures) at c.in_ok-all.ensures in
    let none : c.in_ok-all.all ≡ [] = c.is_empty.ensures.0 c.if-is_empty.true in
    let here = ends-at g.P.Machine.ends_with c.args.width c.args.parts.now c.args.at.now (c.loop-i.i - 1) c.index-parts-i.result c.index-at-i.result c.in_ok-heads.heads c.loop-i.all c.in_ok-all.all
    lt (states-length g.P.Machine.is_state c.args.parts.now c.args.at.now c.requires.states) c.index-parts-i.is c.index-at-i.is c.in_ok-heads.ensures tail sums in
    subst (AreEndCosts g.P.Machine.ends_with c.args.width c.args.parts.now c.args.at.now) (sym none) (ends-stuck g.P.Machine.ends_with c.args.width c.args.parts.now c.args.at.now (c.loop-i.i - 1)
    (subst (AreEndCosts g.P.Machine.ends_with c.args.width (drop (c.loop-i.i - 1) c.args.parts.now) (drop (c.loop-i.i - 1) c.args.at.now)) none here))

pub overflow_sub-i : goal.overflow_sub-i
overflow_sub-i g c = c.loop-i-test.true

pub bounds-parts-i : goal.bounds-parts-i
bounds-parts-i g c =
    let room = c.loop-i.invariant.room in
    let positive = c.loop-i-test.true in
    omega arith

pub offset_bounds-parts-i : goal.offset_bounds-parts-i
offset_bounds-parts-i g c =
    let room = c.loop-i.invariant.room in
    let positive = c.loop-i-test.true in
    omega arith

pub returns : goal.returns
returns g c =
    let zero : c.loop-i.i ≡ 0 = omega arith in
    subst (λ n. AreEndCosts g.P.Machine.ends_with c.args.width (drop n c.args.parts.now) (drop n c.args.at.now) c.loop-i.all) zero c.loop-i.invariant.exact
