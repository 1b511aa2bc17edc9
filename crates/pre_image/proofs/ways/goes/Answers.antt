use Rattle.std.proofs.Common.{◌≡◌, ℕ, ◌*◌, Any, length, sym, ap, ◌∙◌, subst, arith}
use Rattle.machine_core.specs.Edges.{edges_top}
use Rattle.pre_image.specs.Leading.{spelled}
use Rattle.pre_image.specs.Lifts.{EndsAs}
use Rattle.pre_image.proofs.LeadLemmas.{spelled-length}
use Rattle.pre_image.proofs.WayLemmas.{goes-lead, lead-goes}
use Rattle.pre_image.proofs.ways.goes.Goals as goal

pub moves_along-requires-clause-fits : goal.moves_along-requires-clause-fits
moves_along-requires-clause-fits c =
    let n : length c.as_slice.result.now ≡ length c.args.word.now = ap length c.as_slice.ensures ∙ sym (spelled-length c.in_ok-nexts.nexts 0) ∙ ap length (c.in_ok-nexts.ensures 0) in
    let room = c.requires.fits in
    let same = ap (λ n. edges_top c.args.target.now.edges * n) n in
    omega arith

pub returns : goal.returns
returns c =
    let same : (d : ℕ) → spelled c.as_slice.result.now d ≡ c.args.word.now = λ d. ap (λ l. spelled l d) c.as_slice.ensures ∙ c.in_ok-nexts.ensures d in (
      λ t. lead-goes c.args.target.now c.args.from (spelled c.as_slice.result.now) c.args.word.now same c.in_ok-leads.leads c.in_ok-leads.ensures c.args.to c.args.cost.now
          (subst (Any (EndsAs c.args.to c.args.cost.now)) c.as_slice-2.ensures (c.has_lead-found.ensures.0 t)),
      λ g. c.has_lead-found.ensures.1 (subst (Any (EndsAs c.args.to c.args.cost.now)) (sym c.as_slice-2.ensures)
          (goes-lead c.args.target.now c.args.from (spelled c.as_slice.result.now) c.args.word.now same c.in_ok-leads.leads c.in_ok-leads.ensures c.args.to c.args.cost.now g)),
    )
