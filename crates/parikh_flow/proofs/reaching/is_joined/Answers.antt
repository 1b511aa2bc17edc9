use Rattle.std.proofs.Common.{◌≡◌, ◌∙◌, ◌<ℤ◌, pos, rules, false, Some, true, ap, arith, sym}
use Rattle.std.specs.Prelude.{slice_get}
use Rattle.std.proofs.lemmas.Option.{slice_get-get_or, slice_get_within}
use Rattle.farkas_check.specs.Cuts.{values_of}
use Rattle.farkas_check.specs.declared.net.NetEdge.{NetEdge}
use Rattle.parikh_flow.proofs.ReachLemmas.{one-more}
use Rattle.parikh_flow.proofs.reaching.is_joined.Goals as goal
use Rattle.parikh_flow.proofs.reaching.is_joined.Goals.{else-point-edge-gt0-via-then-point-edge-gt0+else-not-seen-edge, else-point-edge-gt0-via-else-point-edge-gt0}

pub loop-at-preserved : goal.loop-at-preserved
loop-at-preserved c p e l h = one-more (λ (d : NetEdge). pos 0 <ℤ values_of c.args.point.now d.unknown → slice_get c.args.seen.now d.from ≡ Some true) c.args.edges.now c.loop-at.at c.item_at-edge.result.now c.item_at-edge.ensures (elim c.else-point-edge-gt0.branch [ else-point-edge-gt0-via-then-point-edge-gt0+else-not-seen-edge w ↦ λ g. slice_get-get_or c.args.seen.now c.item_at-edge.result.now.from false (c.requires.states c.loop-at.at c.item_at-edge.result.now c.item_at-edge.ensures) ∙ ap Some w.if-not-seen-edge.false | else-point-edge-gt0-via-else-point-edge-gt0 w ↦ λ g. search (rules, w.if-point-edge-gt0.false, g) ]) (λ q d. c.loop-at.invariant q d) p e l h

true-no-false : {C : Type 0} → true ≡ false → C
true-no-false e = absurd cc

pub item_at-edge-requires : goal.item_at-edge-requires
item_at-edge-requires c = c.loop-at-test.true

pub bounds-point-edge : goal.bounds-point-edge
bounds-point-edge c = c.requires.unknowns c.loop-at.at c.item_at-edge.result.now c.item_at-edge.ensures

pub bounds-seen-edge : goal.bounds-seen-edge
bounds-seen-edge c = c.requires.states c.loop-at.at c.item_at-edge.result.now c.item_at-edge.ensures

pub returns-then-not-seen-edge-clause-joined : goal.returns-then-not-seen-edge-clause-joined
returns-then-not-seen-edge-clause-joined c = λ e. true-no-false (sym e)

pub returns-clause-left : goal.returns-clause-left
returns-clause-left c = λ e. true-no-false e

pub returns-clause-joined : goal.returns-clause-joined
returns-clause-joined c = λ _ p e g.
    let below = slice_get_within c.args.edges.now p e g in
    let test = c.loop-at-test.false in
    c.loop-at.invariant p e (omega arith) g

pub loop-at-init : goal.loop-at-init
loop-at-init c = λ p e lt. absurd (omega arith)

pub returns-then-not-seen-edge-clause-left : goal.returns-then-not-seen-edge-clause-left
returns-then-not-seen-edge-clause-left c = λ _.
    let e = c.item_at-edge.result.now in
    let above : pos 0 <ℤ values_of c.args.point.now e.unknown = search rules in
    let seen = slice_get-get_or c.args.seen.now e.from false (c.requires.states c.loop-at.at e c.item_at-edge.ensures) in
    (c.loop-at.at, e, c.item_at-edge.ensures, above, seen ∙ ap Some c.if-not-seen-edge.true)
