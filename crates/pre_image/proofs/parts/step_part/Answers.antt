use Rattle.std.proofs.Common.{rules, None, Any, ◌≡◌, Contains, MatchOption, sym, subst}
use Rattle.pre_image.specs.Leading.{Passes}
use Rattle.pre_image.specs.Parts.{IsEdgePart}
use Rattle.pre_image.proofs.EndLemmas.{all-moves, edge-fits}
use Rattle.pre_image.proofs.MoreLemmas.{more-none, all-alone}
use Rattle.pre_image.proofs.parts.step_part.Goals as goal

pub edge_part-requires-clause-fits : goal.edge_part-requires-clause-fits
edge_part-requires-clause-fits c =
    let p = c.args.pre.now in
    edge-fits p.through.now p.target.now p.fits c.edge-item.result
    (subst (λ l. Contains l c.edge-item.result) c.as_slice-edge-items.ensures (c.loop-edge.edge-index, c.loop-edge-test.true, sym c.edge-item.is))

pub returns-in-Some : goal.returns-in-Some
returns-in-Some c =
    let is = subst (λ o. MatchOption o (Passes c.args.pre.now.target.now c.args.from.now c.args.c c.args.cost.now c.args.to.now c.edge-item.result → ⊥) (IsEdgePart c.args.pre.now.target.now c.edge-item.result c.args.from.now c.args.c c.args.cost.now c.args.to.now)) c.in-Some.is c.in_ok-found.ensures in
    record {
      edge = c.edge-item.result;
      listed = subst (λ l. Contains l c.edge-item.result) c.as_slice-edge-items.ensures (c.loop-edge.edge-index, c.loop-edge-test.true, sym c.edge-item.is);
      writes = (is.begins, is.low, is.high, is.written);
      leads = is.leads;
      way = is.way;
    }

pub loop-edge-preserved : goal.loop-edge-preserved
loop-edge-preserved c =
    let p = c.args.pre.now in
    let none : c.in_ok-found.found ≡ None = search rules in
    let not_so = subst (λ o. MatchOption o (Passes p.target.now c.args.from.now c.args.c c.args.cost.now c.args.to.now c.edge-item.result → ⊥) (IsEdgePart p.target.now c.edge-item.result c.args.from.now c.args.c c.args.cost.now c.args.to.now)) none c.in_ok-found.ensures in
    more-none (Passes p.target.now c.args.from.now c.args.c c.args.cost.now c.args.to.now) c.as_slice-edge-items.result.now c.loop-edge.edge-index c.edge-item.result c.loop-edge-test.true c.edge-item.is ⊥ c.loop-edge.invariant not_so

pub unreachable-requires : goal.unreachable-requires
unreachable-requires c =
    let p = c.args.pre.now in
    let some = (all-moves p.through.now p.target.now c.args.from.now c.args.c c.args.cost.now c.args.to.now).0 c.requires.step in
    (all-alone (Passes p.target.now c.args.from.now c.args.c c.args.cost.now c.args.to.now) c.as_slice-edge-items.result.now c.loop-edge.edge-index c.loop-edge-test.false ⊥ c.loop-edge.invariant).1
    (subst (Any (Passes p.target.now c.args.from.now c.args.c c.args.cost.now c.args.to.now)) (sym c.as_slice-edge-items.ensures) some)
