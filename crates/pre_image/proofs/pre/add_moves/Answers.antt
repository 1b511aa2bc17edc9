use Rattle.std.proofs.Common.{◌≡◌, ℕ, ◌≤◌, ◌*◌, ◌↔◌, List, Any, All, Contains, length, sym, ap, ◌∙◌, subst, arith}
use Rattle.std.proofs.lemmas.List.Elements.{All-push}
use Rattle.sv_word.specs.Ranges.{IsInhabited}
use Rattle.machine_core.specs.declared.machine.Move.{Move}
use Rattle.machine_core.specs.Moves.{Moves}
use Rattle.machine_core.specs.Edges.{edges_top}
use Rattle.pre_image.specs.Spelling.{spelling}
use Rattle.pre_image.specs.Spelling.{spelling-length}
use Rattle.pre_image.specs.Leading.{Goes, spelled}
use Rattle.pre_image.proofs.LeadLemmas.{spelled-length}
use Rattle.pre_image.proofs.MoreLemmas.{more-of, all-of, alike, any-more, old-yet}
use Rattle.pre_image.proofs.EndLemmas.{Sent, sent-move, sent-all}
use Rattle.pre_image.proofs.pre.add_moves.Goals as goal

pub moves_along-requires-clause-fits : goal.moves_along-requires-clause-fits
moves_along-requires-clause-fits c =
    let items = c.args.edge.now.items in
    let n : length c.as_slice-2.result.now ≡ length (spelling 0 items) =
    ap length c.as_slice-2.ensures ∙ sym (spelled-length c.in_ok-nexts.nexts 0) ∙ ap length (c.in_ok-nexts.ensures 0 ∙ ap (spelling 0) c.as_slice.ensures) in
    let size = spelling-length 0 items in
    let room = c.requires.fits in
    let same = ap (λ n. edges_top c.args.target.now.edges * n) (n ∙ size) in
    omega arith

pub loop-lead-init : goal.loop-lead-init
loop-lead-init c = record {
  exact = λ d cost to. old-yet (Sent c.args.edge.now.to d cost to) _;
  inhabited = c.requires.old;
}

pub loop-lead-preserved : goal.loop-lead-preserved
loop-lead-preserved c = record {
  exact = λ d cost to.
      let lead = c.lead-item.result in
      more-of (Sent c.args.edge.now.to d cost to) c.as_slice-lead-items.result.now c.loop-lead.lead-index lead c.loop-lead-test.true c.lead-item.is _ _ _ (c.loop-lead.invariant.exact d cost to)
      (alike _ _ _ _ (any-more (Moves d cost to) c.loop-lead.all c.push.new.self _ c.in_ok-push.ensures.ok) (sent-move c.args.edge.now.to lead c.in_ok-on.on c.in_ok-cost.cost c.in_ok-on.ensures c.in_ok-cost.ensures d cost to));
  inhabited =
      let lead = c.lead-item.result in
      let there = subst (λ l. Contains l lead) c.as_slice-lead-items.ensures (c.loop-lead.lead-index, c.loop-lead-test.true, sym c.lead-item.is) in
      subst (All (λ (m : Move (ℕ × ℕ)). IsInhabited m.on)) (sym c.in_ok-push.ensures.ok)
      (All-push (λ (m : Move (ℕ × ℕ)). IsInhabited m.on) c.loop-lead.all _ c.loop-lead.invariant.inhabited (subst IsInhabited (sym c.in_ok-on.ensures) (c.in_ok-leads.ensures.inhabited lead there)));
}

pub returns-clause-exact : goal.returns-clause-exact
returns-clause-exact c d cost to =
    let m = c.args.target.now in
    let e = c.args.edge.now in
    let all = all-of (Sent e.to d cost to) c.as_slice-lead-items.result.now c.loop-lead.lead-index c.loop-lead-test.false _ _ (c.loop-lead.invariant.exact d cost to) in
    let same : (b : ℕ) → spelled c.as_slice-2.result.now b ≡ spelling b e.items = λ b. ap (λ l. spelled l b) c.as_slice-2.ensures ∙ c.in_ok-nexts.ensures b ∙ ap (spelling b) c.as_slice.ensures in
    let sent = sent-all m c.args.at e.lo e.hi (spelled c.as_slice-2.result.now) (λ b. spelling b e.items) same c.in_ok-leads.leads c.in_ok-leads.ensures e.to d cost to in
    alike _ _ _ _ all (subst (λ (l : List (Move ℕ)). Any (Sent e.to d cost to) l ↔ ((e.to ≡ to.0) × (e.lo ≤ d) × (d ≤ e.hi) × Goes m c.args.at (spelling d e.items) cost to.1)) (sym c.as_slice-lead-items.ensures) sent)

pub returns-clause-inhabited : goal.returns-clause-inhabited
returns-clause-inhabited c = c.loop-lead.invariant.inhabited
