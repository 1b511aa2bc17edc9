use Rattle.std.proofs.Common.{ℕ, List, MatchOption, refl, sym, ap, ◌∙◌, subst}
use Rattle.std.proofs.lemmas.Bool.{false≢true}
use Rattle.machine_core.specs.Costs.{add_costs}
use Rattle.pre_image.specs.Lifts.{IsRest}
use Rattle.pre_image.proofs.WayLemmas.{left-goes, left-rest}
use Rattle.pre_image.proofs.ways.try_step.Goals as goal

pub returns-in-None : goal.returns-in-None
returns-in-None c left l =
    let none = subst (λ o. MatchOption o ((rest : List ℕ) → IsRest c.args.cost.now c.args.step.now.cost rest → ⊥) (IsRest c.args.cost.now c.args.step.now.cost)) c.in-None.is c.in_ok-subtract.ensures in
    none left (left-rest c.args.target.now c.args.step.now c.args.rest.now c.args.to c.args.cost.now left c.requires.whole l)

pub returns-then-not-branch : goal.returns-then-not-branch
returns-then-not-branch c other l =
    let is = subst (λ o. MatchOption o ((rest : List ℕ) → IsRest c.args.cost.now c.args.step.now.cost rest → ⊥) (IsRest c.args.cost.now c.args.step.now.cost)) c.in-Some.is c.in_ok-subtract.ensures in
    let goes = c.in_ok-goes.ensures.1 (left-goes c.args.target.now c.args.step.now c.args.rest.now c.args.to c.args.cost.now c.in-Some.left other c.requires.width c.requires.whole is l) in
    false≢true (sym c.if-not-branch.true ∙ goes)

pub subtract-requires : goal.subtract-requires
subtract-requires c = c.requires.width ∙ sym c.requires.whole

pub goes-requires-clause-from : goal.goes-requires-clause-from
goes-requires-clause-from c = c.requires.at

pub goes-requires-clause-fits : goal.goes-requires-clause-fits
goes-requires-clause-fits c = c.requires.fits

pub returns : goal.returns
returns c =
    let is = subst (λ o. MatchOption o ((rest : List ℕ) → IsRest c.args.cost.now c.args.step.now.cost rest → ⊥) (IsRest c.args.cost.now c.args.step.now.cost)) c.in-Some.is c.in_ok-subtract.ensures in
    record {
      paid = c.in_ok-paid.ensures;
      next = refl;
      goes = c.in_ok-goes.ensures.0 c.if-not-branch.false;
      sum = ap (λ k. add_costs k c.in-Some.left) c.in_ok-paid.ensures ∙ is.sum;
      width = is.width;
    }
