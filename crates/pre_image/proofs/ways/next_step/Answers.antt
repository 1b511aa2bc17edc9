use Rattle.std.proofs.Common.{rules, None, ℕ, Any, ◌≡◌, List, Contains, MatchOption, sym, ◌∙◌, subst}
use Rattle.std.proofs.lemmas.Bool.{false≢true}
use Rattle.sv_list.specs.Lists.{Any-none}
use Rattle.pre_image.specs.Lifts.{GoesOnAt, IsTried, Works}
use Rattle.pre_image.proofs.MoreLemmas.{more-none, all-alone}
use Rattle.pre_image.proofs.WayLemmas.{move-steps, some-works, tried-next}
use Rattle.pre_image.proofs.ways.next_step.Goals as goal

pub try_step-requires-clause-at : goal.try_step-requires-clause-at
try_step-requires-clause-at c =
    (move-steps c.args.target.now c.args.at c.in_ok-steps.steps c.in_ok-steps.ensures.exact c.in_ok-steps.ensures.inhabited c.step-item.result
    (subst (λ l. Contains l c.step-item.result) c.as_slice-step-items.ensures (c.loop-step.step-index, c.loop-step-test.true, sym c.step-item.is))).0

pub try_step-requires-clause-width : goal.try_step-requires-clause-width
try_step-requires-clause-width c =
    (move-steps c.args.target.now c.args.at c.in_ok-steps.steps c.in_ok-steps.ensures.exact c.in_ok-steps.ensures.inhabited c.step-item.result
    (subst (λ l. Contains l c.step-item.result) c.as_slice-step-items.ensures (c.loop-step.step-index, c.loop-step-test.true, sym c.step-item.is))).1

pub returns-in-Some : goal.returns-in-Some
returns-in-Some c =
    tried-next c.args.target.now c.args.at c.args.c c.in_ok-steps.steps c.in_ok-steps.ensures.exact c.step-item.result
    (subst (λ l. Contains l c.step-item.result) c.as_slice-step-items.ensures (c.loop-step.step-index, c.loop-step-test.true, sym c.step-item.is))
    (sym c.holds.ensures ∙ c.if-not-holds.false) c.args.rest.now c.args.to c.args.cost.now c.in-Some.next
    (subst (λ o. MatchOption o ((left : List ℕ) → GoesOnAt c.args.target.now c.step-item.result c.args.rest.now c.args.to c.args.cost.now left → ⊥) (IsTried c.args.target.now c.step-item.result c.args.rest.now c.args.to c.args.cost.now)) c.in-Some.is c.in_ok-found.ensures)

pub loop-step-preserved : goal.loop-step-preserved
loop-step-preserved c =
    let m = c.args.target.now in
    let none : c.in_ok-found.found ≡ None = search rules in
    let not_so = subst (λ o. MatchOption o ((left : List ℕ) → GoesOnAt m c.step-item.result c.args.rest.now c.args.to c.args.cost.now left → ⊥) (IsTried m c.step-item.result c.args.rest.now c.args.to c.args.cost.now)) none c.in_ok-found.ensures in
    more-none (Works m c.args.c c.args.rest.now c.args.to c.args.cost.now) c.as_slice-step-items.result.now c.loop-step.step-index c.step-item.result c.loop-step-test.true c.step-item.is ⊥ c.loop-step.invariant
    (λ w. not_so w.1 w.2)

pub unreachable-requires : goal.unreachable-requires
unreachable-requires c =
    let m = c.args.target.now in
    let steps = subst (Any (Works m c.args.c c.args.rest.now c.args.to c.args.cost.now)) (sym c.as_slice-step-items.ensures) (some-works m c.args.at c.args.c c.args.rest.now c.args.to c.args.cost.now c.in_ok-steps.steps c.in_ok-steps.ensures.exact c.requires.goes) in
    (all-alone (Works m c.args.c c.args.rest.now c.args.to c.args.cost.now) c.as_slice-step-items.result.now c.loop-step.step-index c.loop-step-test.false ⊥ c.loop-step.invariant).1 steps

pub try_step-requires-clause-whole : goal.try_step-requires-clause-whole
try_step-requires-clause-whole c = c.requires.width

pub try_step-requires-clause-fits : goal.try_step-requires-clause-fits
try_step-requires-clause-fits c = c.requires.fits

pub loop-step-init : goal.loop-step-init
loop-step-init c = (λ none. absurd none, λ a. Any-none (Works c.args.target.now c.args.c c.args.rest.now c.args.to c.args.cost.now) a)

pub loop-step-preserved-then-not-holds : goal.loop-step-preserved-then-not-holds
loop-step-preserved-then-not-holds c =
    more-none (Works c.args.target.now c.args.c c.args.rest.now c.args.to c.args.cost.now) c.as_slice-step-items.result.now c.loop-step.step-index c.step-item.result c.loop-step-test.true c.step-item.is ⊥ c.loop-step.invariant
    (λ w. false≢true (sym c.if-not-holds.true ∙ c.holds.ensures ∙ w.0))
