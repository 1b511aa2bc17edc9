use Rattle.std.proofs.Common.{rules, None, Any, ◌≡◌, Contains, MatchOption, sym, subst, arith}
use Rattle.pre_image.specs.Leading.{EndsInPair}
use Rattle.sv_terms.specs.Language.{Word}
use Rattle.pre_image.specs.Lifts.{IsWay}
use Rattle.pre_image.specs.Parts.{IsClosingPart}
use Rattle.pre_image.proofs.EndLemmas.{all-ends, end-fits}
use Rattle.pre_image.proofs.MoreLemmas.{more-none, all-alone}
use Rattle.pre_image.proofs.parts.last_part.Goals as goal

pub closing_part-requires-clause-fits : goal.closing_part-requires-clause-fits
closing_part-requires-clause-fits c =
    let p = c.args.pre.now in
    let f = end-fits p.through.now p.target.now p.fits c.end-item.result
    (subst (λ l. Contains l c.end-item.result) c.as_slice-end-items.ensures (c.loop-end.end-index, c.loop-end-test.true, sym c.end-item.is)) in
    omega arith

pub returns-in-Some : goal.returns-in-Some
returns-in-Some c =
    let p = c.args.pre.now in
    let e = c.end-item.result in
    let part = c.in-Some.part in
    let is = subst (λ o. MatchOption o (EndsInPair p.target.now c.args.at.now c.args.cost.now e → ⊥) (IsClosingPart p.target.now c.args.at.now e c.args.cost.now)) c.in-Some.is c.in_ok-found.ensures in
    let there = subst (λ l. Contains l e) c.as_slice-end-items.ensures (c.loop-end.end-index, c.loop-end-test.true, sym c.end-item.is) in
    record {
      stop = is.whole.stop;
      paid = is.whole.paid;
      end = subst (λ (w : Word). Contains p.through.now.ends (c.args.at.now.0, w)) (sym is.whole.same) (subst (λ n. Contains p.through.now.ends (n, e.1)) is.state there);
      way = subst (λ w. IsWay p.target.now c.args.at.now.1 w is.whole.stop is.whole.paid part.way.states part.way.costs) (sym is.whole.same) is.whole.way;
      last = is.whole.last;
      sum = is.whole.sum;
    }

pub loop-end-preserved : goal.loop-end-preserved
loop-end-preserved c =
    let p = c.args.pre.now in
    let none : c.in_ok-found.found ≡ None = search rules in
    let not_so = subst (λ o. MatchOption o (EndsInPair p.target.now c.args.at.now c.args.cost.now c.end-item.result → ⊥) (IsClosingPart p.target.now c.args.at.now c.end-item.result c.args.cost.now)) none c.in_ok-found.ensures in
    more-none (EndsInPair p.target.now c.args.at.now c.args.cost.now) c.as_slice-end-items.result.now c.loop-end.end-index c.end-item.result c.loop-end-test.true c.end-item.is ⊥ c.loop-end.invariant not_so

pub unreachable-requires : goal.unreachable-requires
unreachable-requires c =
    let p = c.args.pre.now in
    let some = (all-ends p.through.now p.target.now c.args.at.now c.args.cost.now).1 c.requires.end in
    (all-alone (EndsInPair p.target.now c.args.at.now c.args.cost.now) c.as_slice-end-items.result.now c.loop-end.end-index c.loop-end-test.false ⊥ c.loop-end.invariant).1
    (subst (Any (EndsInPair p.target.now c.args.at.now c.args.cost.now)) (sym c.as_slice-end-items.ensures) some)
