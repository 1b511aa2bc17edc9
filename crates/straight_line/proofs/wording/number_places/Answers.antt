use Rattle.std.proofs.Common.{◌∙◌, ap, subst, ◌<◌, ◌^◌, arith}
use Rattle.std.proofs.lemmas.Result.{IfOk-weaker}
use Rattle.straight_line.specs.Wording.{least_of}
use Rattle.straight_line.proofs.Worded.{count_is, firsts_count, firsts_lower, firsts_rooted, numbers_are}
use Rattle.straight_line.proofs.wording.number_places.Goals as goal

pub number-requires-clause-lower : goal.number-requires-clause-lower
number-requires-clause-lower c =
    let is = c.as_slice.ensures.value ∙ c.in_ok-firsts.ensures ∙ ap (λ m. least_of m c.args.equalities.now) c.in_ok-places.ensures.count in
    firsts_lower c.args.places c.args.equalities.now c.requires c.as_slice.result.now is

pub number-requires-clause-rooted : goal.number-requires-clause-rooted
number-requires-clause-rooted c =
    let is = c.as_slice.ensures.value ∙ c.in_ok-firsts.ensures ∙ ap (λ m. least_of m c.args.equalities.now) c.in_ok-places.ensures.count in
    firsts_rooted c.args.places c.args.equalities.now c.requires c.as_slice.result.now is

pub number-requires-clause-few : goal.number-requires-clause-few
number-requires-clause-few c =
    let is = c.as_slice.ensures.value ∙ c.in_ok-firsts.ensures ∙ ap (λ m. least_of m c.args.equalities.now) c.in_ok-places.ensures.count in
    let n = firsts_count c.args.places c.args.equalities.now c.requires c.as_slice.result.now is in
    let e = c.in_ok-places.ensures.count in
    let l = c.in_ok-places.ensures.few in
    omega arith

pub returns : goal.returns
returns c =
    let is = c.as_slice.ensures.value ∙ c.in_ok-firsts.ensures ∙ ap (λ m. least_of m c.args.equalities.now) c.in_ok-places.ensures.count in
    record {
      few = IfOk-weaker c.number.result _ _ (λ _ _. subst (λ n. n < 2 ^ 32) c.in_ok-places.ensures.count c.in_ok-places.ensures.few) c.number.ensures.count;
      count = IfOk-weaker c.number.result _ _ (λ n e. count_is c.args.places c.args.equalities.now c.requires c.as_slice.result.now is n.count e) c.number.ensures.count;
      of = IfOk-weaker c.number.result _ _ (λ n e. numbers_are c.args.places c.args.equalities.now c.requires c.as_slice.result.now is n.of.items e) c.number.ensures.of;
    }
