use Rattle.std.proofs.Common.{rules, None, Any, ◌≡◌, Contains, MatchOption, refl, sym, ◌∙◌, subst}
use Rattle.machine_core.specs.Costs.{add_costs}
use Rattle.machine_core.specs.CostLaws.{add_costs-comm}
use Rattle.pre_image.specs.Parts.{EndsByPath, IsFinalPart}
use Rattle.pre_image.proofs.MoreLemmas.{more-none, all-alone}
use Rattle.pre_image.proofs.PartLemmas.{some-end}
use Rattle.pre_image.proofs.parts.end_part.Goals as goal

pub final_part-requires-clause-end : goal.final_part-requires-clause-end
final_part-requires-clause-end c =
    let m = c.args.target.now in
    (m.formed.ending c.end-item.result (subst (λ l. Contains l c.end-item.result) c.finals-end-items.ensures (c.loop-end.end-index, c.loop-end-test.true, sym c.end-item.is))).cost

pub returns-in-Some : goal.returns-in-Some
returns-in-Some c =
    let m = c.args.target.now in
    let e = c.end-item.result in
    let is = subst (λ o. MatchOption o (EndsByPath m c.args.at c.args.word.now c.args.cost.now e → ⊥) (IsFinalPart m c.args.at c.args.word.now e c.args.cost.now)) c.in-Some.is c.in_ok-found.ensures in
    let there = subst (λ l. Contains l e) c.finals-end-items.ensures (c.loop-end.end-index, c.loop-end-test.true, sym c.end-item.is) in
    record {
      stop = e.at;
      paid = is.paid;
      same = is.same;
      way = is.way;
      last = (there.0, e, there.1, there.2, (refl, sym is.last));
      sum = add_costs-comm is.paid c.in-Some.part.last ∙ subst (λ k. add_costs k is.paid ≡ c.args.cost.now) (sym is.last) is.sum;
    }

pub loop-end-preserved : goal.loop-end-preserved
loop-end-preserved c =
    let m = c.args.target.now in
    let none : c.in_ok-found.found ≡ None = search rules in
    let not_so = subst (λ o. MatchOption o (EndsByPath m c.args.at c.args.word.now c.args.cost.now c.end-item.result → ⊥) (IsFinalPart m c.args.at c.args.word.now c.end-item.result c.args.cost.now)) none c.in_ok-found.ensures in
    more-none (EndsByPath m c.args.at c.args.word.now c.args.cost.now) c.finals-end-items.result.now c.loop-end.end-index c.end-item.result c.loop-end-test.true c.end-item.is ⊥ c.loop-end.invariant not_so

pub returns : goal.returns
returns c r =
    let m = c.args.target.now in
    (all-alone (EndsByPath m c.args.at c.args.word.now c.args.cost.now) c.finals-end-items.result.now c.loop-end.end-index c.loop-end-test.false ⊥ c.loop-end.invariant).1
    (subst (Any (EndsByPath m c.args.at c.args.word.now c.args.cost.now)) (sym c.finals-end-items.ensures) (some-end m c.args.at c.args.word.now c.args.cost.now r))
