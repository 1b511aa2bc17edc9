use Rattle.std.proofs.Common.{◌≡◌, [], ◌<◌, ◌-◌, suc, drop, length, subst, sym, ◌∙◌, arith}
use Rattle.std.proofs.lemmas.Result.{IfOk-weaker}
use Rattle.sv_list.specs.Lists.{some-tested, empty-tested}
use Rattle.machine_meet.specs.Products.{AreProduct}
use Rattle.machine_meet.proofs.ProductLemmas.{product-none, product-last, product-at, product-stuck, states-length, states-at, can-add-at, listed-inhabited}
use Rattle.machine_meet.proofs.product.product.Goals as goal

pub returns-then-is_empty-clause-exact : goal.returns-then-is_empty-clause-exact
returns-then-is_empty-clause-exact g c =
    let none = empty-tested c.args.parts.now (sym c.is_empty.ensures ∙ c.if-is_empty.true) in
    let same = states-length g.P.Machine.is_state c.args.parts.now c.args.at.now c.requires.states in
    IfOk-weaker c.nothing.result _ _ (λ all. product-none g.P.Machine.steps_to c.args.width c.args.parts.now c.args.at.now all none same) c.nothing.ensures.exact

pub bounds-at-last : goal.bounds-at-last
bounds-at-last g c =
    let same = states-length g.P.Machine.is_state c.args.parts.now c.args.at.now c.requires.states in
    let some = some-tested c.args.parts.now (sym c.is_empty.ensures ∙ c.if-is_empty.false) in
    omega arith

pub loop-i-init : goal.loop-i-init
loop-i-init g c =
    let ps = c.args.parts.now in
    let ss = c.args.at.now in
    let p = c.index-parts-last.result in
    let s = c.index-at-last.result in
    let some = some-tested ps (sym c.is_empty.ensures ∙ c.if-is_empty.false) in
    let lt : length ps - 1 < length ps = omega arith in
    let last : suc (length ps - 1) ≡ length ps = omega arith in
    let st = states-at g.P.Machine.is_state ps ss (length ps - 1) p s c.requires.states lt c.index-parts-last.is c.index-at-last.is in
    record {
      room = omega arith;
      exact = rw c.in_ok-all.ensures (product-last g.P.Machine.steps_to c.args.width ps ss (length ps - 1) p s c.in_ok-own.own last (states-length g.P.Machine.is_state ps ss c.requires.states)
          c.index-parts-last.is c.index-at-last.is c.in_ok-own.ensures.exact
          (λ d cost t h. (g.met.P.Machine.step_character p s t d cost st h, (g.met.P.Machine.step_cost p s t d cost st h).entries ∙ c.requires.width p (length ps - 1, lt, sym c.index-parts-last.is))));
      inhabited = rw c.in_ok-all.ensures (listed-inhabited c.in_ok-own.own c.in_ok-own.ensures.inhabited);
    }

pub returns-then-is_empty-2-clause-exact : goal.returns-then-is_empty-2-clause-exact
returns-then-is_empty-2-clause-exact g c =
    let none : c.loop-i.all ≡ [] = c.is_empty-in-loop-i.ensures.0 c.if-is_empty-2.true in
    subst (AreProduct g.P.Machine.steps_to c.args.width c.args.parts.now c.args.at.now) (sym none) (product-stuck g.P.Machine.steps_to c.args.width c.args.parts.now c.args.at.now c.loop-i.i
    (subst (AreProduct g.P.Machine.steps_to c.args.width (drop c.loop-i.i c.args.parts.now) (drop c.loop-i.i c.args.at.now)) none c.loop-i.invariant.exact))

pub returns-clause-exact : goal.returns-clause-exact
returns-clause-exact g c =
    let zero : c.loop-i.i ≡ 0 = omega arith in
    subst (λ n. AreProduct g.P.Machine.steps_to c.args.width (drop n c.args.parts.now) (drop n c.args.at.now) c.loop-i.all) zero c.loop-i.invariant.exact

pub offset_bounds-at-last : goal.offset_bounds-at-last
offset_bounds-at-last g c =
    let same = states-length g.P.Machine.is_state c.args.parts.now c.args.at.now c.requires.states in
    let some = some-tested c.args.parts.now (sym c.is_empty.ensures ∙ c.if-is_empty.false) in
    omega arith

pub bounds-at-i : goal.bounds-at-i
bounds-at-i g c =
    let same = states-length g.P.Machine.is_state c.args.parts.now c.args.at.now c.requires.states in
    let room = c.loop-i.invariant.room in
    let positive = c.loop-i-test.true in
    omega arith

pub offset_bounds-at-i : goal.offset_bounds-at-i
offset_bounds-at-i g c =
    let same = states-length g.P.Machine.is_state c.args.parts.now c.args.at.now c.requires.states in
    let room = c.loop-i.invariant.room in
    let positive = c.loop-i-test.true in
    omega arith

pub moves-requires : goal.moves-requires
moves-requires g c =
    let some = some-tested c.args.parts.now (sym c.is_empty.ensures ∙ c.if-is_empty.false) in
    states-at g.P.Machine.is_state c.args.parts.now c.args.at.now (length c.args.parts.now - 1) c.index-parts-last.result c.index-at-last.result c.requires.states (omega arith) c.index-parts-last.is c.index-at-last.is

pub moves-requires-in-loop-i : goal.moves-requires-in-loop-i
moves-requires-in-loop-i g c =
    let room = c.loop-i.invariant.room in
    let positive = c.loop-i-test.true in
    states-at g.P.Machine.is_state c.args.parts.now c.args.at.now (c.loop-i.i - 1) c.index-parts-i.result c.index-at-i.result c.requires.states (omega arith) c.index-parts-i.is c.index-at-i.is

pub join_all-requires : goal.join_all-requires
join_all-requires g c =
    let inv = c.loop-i.invariant in
    let positive = c.loop-i-test.true in
    let lt : c.loop-i.i - 1 < length c.args.parts.now = omega arith in
    let next : suc (c.loop-i.i - 1) ≡ c.loop-i.i = omega arith in
    let tail = subst (λ n. AreProduct g.P.Machine.steps_to c.args.width (drop n c.args.parts.now) (drop n c.args.at.now) c.loop-i.all) (sym next) inv.exact in
    record {
      add = rw (c.as_slice.ensures, c.as_slice-in-loop-i.ensures) (can-add-at g.P.Machine.is_state g.P.Machine.steps_to g.P.Machine.width g.P.Machine.top g.met.P.Machine.step_cost c.args.width c.args.parts.now c.requires.width c.requires.fits
          c.args.at.now c.requires.states (c.loop-i.i - 1) c.index-parts-i.result c.index-at-i.result lt c.index-parts-i.is c.index-at-i.is
          c.in_ok-heads.heads c.loop-i.all c.in_ok-heads.ensures.exact c.in_ok-heads.ensures.inhabited tail inv.inhabited);
    }

pub loop-i-preserved : goal.loop-i-preserved
loop-i-preserved g c =
    let inv = c.loop-i.invariant in
    let positive = c.loop-i-test.true in
    let lt : c.loop-i.i - 1 < length c.args.parts.now = omega arith in
    let next : suc (c.loop-i.i - 1) ≡ c.loop-i.i = omega arith in
    let tail = subst (λ n. AreProduct g.P.Machine.steps_to c.args.width (drop n c.args.parts.now) (drop n c.args.at.now) c.loop-i.all) (sym next) inv.exact in
    let joins = rw (c.as_slice.ensures, c.as_slice-in-loop-i.ensures) at c.in_ok-all-2.ensures.exact in
    record {
      room = omega arith;
      exact = product-at g.P.Machine.steps_to c.args.width c.args.parts.now c.args.at.now (c.loop-i.i - 1) c.index-parts-i.result c.index-at-i.result c.in_ok-heads.heads c.loop-i.all c.in_ok-all-2.all
          lt (states-length g.P.Machine.is_state c.args.parts.now c.args.at.now c.requires.states) c.index-parts-i.is c.index-at-i.is c.in_ok-heads.ensures.exact tail joins;
      inhabited = c.in_ok-all-2.ensures.inhabited;
    }

pub overflow_sub-last : goal.overflow_sub-last
overflow_sub-last g c =
    let some = some-tested c.args.parts.now (sym c.is_empty.ensures ∙ c.if-is_empty.false) in
    omega arith

pub bounds-parts-last : goal.bounds-parts-last
bounds-parts-last g c =
    let some = some-tested c.args.parts.now (sym c.is_empty.ensures ∙ c.if-is_empty.false) in
    omega arith

pub offset_bounds-parts-last : goal.offset_bounds-parts-last
offset_bounds-parts-last g c =
    let some = some-tested c.args.parts.now (sym c.is_empty.ensures ∙ c.if-is_empty.false) in
    omega arith

pub overflow_sub-i : goal.overflow_sub-i
overflow_sub-i g c = c.loop-i-test.true

pub bounds-parts-i : goal.bounds-parts-i
bounds-parts-i g c =
    let room = c.loop-i.invariant.room in
    let positive = c.loop-i-test.true in
    omega arith

pub offset_bounds-parts-i : goal.offset_bounds-parts-i
offset_bounds-parts-i g c =
    let room = c.loop-i.invariant.room in
    let positive = c.loop-i-test.true in
    omega arith

pub returns-then-is_empty-clause-inhabited : goal.returns-then-is_empty-clause-inhabited
returns-then-is_empty-clause-inhabited g c = c.nothing.ensures.inhabited

pub returns-then-is_empty-2-clause-inhabited : goal.returns-then-is_empty-2-clause-inhabited
returns-then-is_empty-2-clause-inhabited g c = c.loop-i.invariant.inhabited

pub returns-clause-inhabited : goal.returns-clause-inhabited
returns-clause-inhabited g c = c.loop-i.invariant.inhabited
