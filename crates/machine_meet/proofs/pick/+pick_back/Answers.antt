use Rattle.std.proofs.Common.{◌≡◌, ◌-◌, length, take, drop, ◌∷◌, IfOk, sym, ap, ◌∙◌, subst}
use Rattle.std.proofs.lemmas.List.{take_all}
use Rattle.machine_meet.specs.Splits.{AreCostsWide, IsPick, IsLeft, IsRest, turned}
use Rattle.machine_meet.proofs.PlaceLemmas.{first-and-rest}
use Rattle.machine_meet.proofs.PickLemmas.{NoneOf, none-of-start, none-of-next, none-of-all, after-none, after-left, after-turned}
use Rattle.machine_meet.proofs.pick.+pick_back.Goals as goal

pub pick_back-returns-in-len1-up : goal.pick_back-returns-in-len1-up
pick_back-returns-in-len1-up t c =
    let rest = take (length c.args.options.now - 1) (drop 1 c.args.options.now) in
    let whole : (c.as_slice.result.now ∷ rest) ≡ c.args.options.now =
    ap (λ x. x ∷ rest) c.as_slice.ensures ∙ first-and-rest c.args.options.now c.first-item.result c.in-len1-up.len_at_least c.first-item.is in
    subst (λ os. IfOk c.pick_one_of.result (λ picked. AreCostsWide (length c.args.want.now) os → IsPick os c.args.want.now (turned picked))) whole c.pick_one_of.ensures

pub pick_after-returns-in-None : goal.pick_after-returns-in-None
pick_after-returns-in-None t c = λ e wide.
    after-none c.args.cost.now c.args.want.now c.args.rest.now e wide (subst (IsLeft c.args.want.now c.args.cost.now) c.in-None.is (c.in_ok-left_of.ensures e))

pub pick_after-returns-in-None-2 : goal.pick_after-returns-in-None-2
pick_after-returns-in-None-2 t c = λ e wide.
    let l : IsRest c.args.want.now c.args.cost.now c.in-Some.left = subst (IsLeft c.args.want.now c.args.cost.now) c.in-Some.is (c.in_ok-left_of.ensures e) in
    let others = subst (λ n. AreCostsWide n c.args.rest.now) (sym l.0) wide in
    after-left c.args.cost.now c.args.want.now c.in-Some.left c.args.rest.now e wide l (subst (λ o. IsPick c.args.rest.now c.in-Some.left (turned o)) c.in-None-2.is (c.in_ok-pick_back-in-Some.ensures others))

pub pick_one_of-loop-cost-init : goal.pick_one_of-loop-cost-init
pick_one_of-loop-cost-init t c = λ wide. none-of-start c.args.rest.now c.args.want.now

pub pick_one_of-loop-cost-preserved : goal.pick_one_of-loop-cost-preserved
pick_one_of-loop-cost-preserved t c =
    none-of-next c.args.costs.now c.cost-item.result c.args.want.now c.args.rest.now c.loop-cost.cost-index (turned c.in_ok-picked.field-0) c.loop-cost-test.true c.cost-item.is (ap turned c.in_default.is) c.in_ok-picked.ensures c.loop-cost.invariant

pub pick_one_of-returns : goal.pick_one_of-returns
pick_one_of-returns t c = λ wide.
    none-of-all c.args.costs.now c.args.rest.now c.args.want.now
    (subst (λ l. NoneOf l c.args.rest.now c.args.want.now) (take_all c.loop-cost.cost-index c.args.costs.now c.loop-cost-test.false) (c.loop-cost.invariant wide))

pub pick_after-returns : goal.pick_after-returns
pick_after-returns t c = λ e wide.
    let l : IsRest c.args.want.now c.args.cost.now c.in-Some.left = subst (IsLeft c.args.want.now c.args.cost.now) c.in-Some.is (c.in_ok-left_of.ensures e) in
    let others = subst (λ n. AreCostsWide n c.args.rest.now) (sym l.0) wide in
    after-turned c.args.cost.now c.args.want.now c.in-Some.left c.args.rest.now c.in-Some-2.costs c.in_ok-add_last-in-Some-2.field-0 l
    (subst (λ o. IsPick c.args.rest.now c.in-Some.left (turned o)) c.in-Some-2.is (c.in_ok-pick_back-in-Some.ensures others)) c.in_ok-add_last-in-Some-2.ensures
