use Rattle.std.proofs.Common.{ℕ, List, MatchOption, sym, ◌∙◌, subst}
use Rattle.std.proofs.lemmas.Bool.{false≢true}
use Rattle.pre_image.specs.Leading.{Goes}
use Rattle.pre_image.specs.Lifts.{IsRest, IsWay}
use Rattle.pre_image.proofs.PartLemmas.{end-goes, end-rest}
use Rattle.pre_image.proofs.parts.final_part.Goals as goal

pub returns-in-None : goal.returns-in-None
returns-in-None c e =
    let none = subst (λ o. MatchOption o ((rest : List ℕ) → IsRest c.args.cost.now c.args.end.now.cost rest → ⊥) (IsRest c.args.cost.now c.args.end.now.cost)) c.in-None.is c.in_ok-subtract.ensures in
    none e.0 (end-rest c.args.target.now c.args.at c.args.word.now c.args.cost.now c.args.end.now c.requires.width e)

pub returns-then-not-may : goal.returns-then-not-may
returns-then-not-may c e =
    let is = subst (λ o. MatchOption o ((rest : List ℕ) → IsRest c.args.cost.now c.args.end.now.cost rest → ⊥) (IsRest c.args.cost.now c.args.end.now.cost)) c.in-Some.is c.in_ok-subtract.ensures in
    let goes = end-goes c.args.target.now c.args.at c.args.word.now c.args.cost.now c.in-Some.left c.args.end.now c.requires.end c.requires.width is e in
    let may = c.in_ok-may.ensures.1 (subst (λ w. Goes c.args.target.now c.args.at w c.in-Some.left c.args.end.now.at) (sym c.as_slice.ensures) goes) in
    false≢true (sym c.if-not-may.true ∙ may)

pub subtract-requires : goal.subtract-requires
subtract-requires c = c.requires.end ∙ sym c.requires.width

pub goes-requires-clause-from : goal.goes-requires-clause-from
goes-requires-clause-from c = c.requires.at

pub goes-requires-clause-fits : goal.goes-requires-clause-fits
goes-requires-clause-fits c = rw c.as_slice.ensures c.requires.fits

pub way_on-requires-clause-from : goal.way_on-requires-clause-from
way_on-requires-clause-from c = c.requires.at

pub way_on-requires-clause-width : goal.way_on-requires-clause-width
way_on-requires-clause-width c =
    let is = subst (λ o. MatchOption o ((rest : List ℕ) → IsRest c.args.cost.now c.args.end.now.cost rest → ⊥) (IsRest c.args.cost.now c.args.end.now.cost)) c.in-Some.is c.in_ok-subtract.ensures in
    is.width ∙ c.requires.width

pub way_on-requires-clause-fits : goal.way_on-requires-clause-fits
way_on-requires-clause-fits c = rw c.as_slice-2.ensures c.requires.fits

pub way_on-requires-clause-goes : goal.way_on-requires-clause-goes
way_on-requires-clause-goes c =
    subst (λ w. Goes c.args.target.now c.args.at w c.in-Some.left c.args.end.now.at) (c.as_slice.ensures ∙ sym c.as_slice-2.ensures) (c.in_ok-may.ensures.0 c.if-not-may.false)

pub returns : goal.returns
returns c =
    let is = subst (λ o. MatchOption o ((rest : List ℕ) → IsRest c.args.cost.now c.args.end.now.cost rest → ⊥) (IsRest c.args.cost.now c.args.end.now.cost)) c.in-Some.is c.in_ok-subtract.ensures in
    record {
      paid = c.in-Some.left;
      same = c.in_ok-word.ensures;
      last = c.in_ok-last.ensures;
      way = subst (λ w. IsWay c.args.target.now c.args.at w c.args.end.now.at c.in-Some.left c.in_ok-way.way.states c.in_ok-way.way.costs) c.as_slice-2.ensures c.in_ok-way.ensures;
      sum = is.sum;
    }
