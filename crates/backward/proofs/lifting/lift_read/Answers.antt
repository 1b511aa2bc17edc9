use Rattle.std.proofs.Common.{sym, ap, ap₂, ◌∙◌, subst}
use Rattle.machine_core.specs.Costs.{add_costs, total_of}
use Rattle.sv_terms.specs.Transduction.{Pairs}
use Rattle.machine_core.specs.Runs.{IsRun, run_total}
use Rattle.machine_core.specs.Graphs.{IsRunOf}
use Rattle.pre_image.specs.PreImages.{PreEnds, PreSteps}
use Rattle.backward.proofs.lifting.lift_read.Goals as goal

pub lift_pre-requires : goal.lift_pre-requires
lift_pre-requires c =
    let t = c.args.through.now in
    let pairs = c.in_ok-pairs.pairs in
    let run = c.requires.pre.lifts c.in_ok-apart.apart.part pairs c.in_ok-apart.ensures.part c.in_ok-pairs.ensures in
    subst (λ u. IsRun (PreEnds u c.in_ok-whole.whole.target.now) (PreSteps u c.in_ok-whole.whole.target.now) (u.start, 0) pairs) (sym c.in_ok-whole.ensures.through)
    (subst (λ h. IsRun (PreEnds t h) (PreSteps t h) (t.start, 0) pairs) (sym c.in_ok-whole.ensures.target) run)

pub returns : goal.returns
returns c =
    let e = c.in_ok-apart.ensures in
    let l = c.in_ok-pairs.ensures in
    let w = c.in_ok-lifted.ensures in
    let b = c.in_ok-lifted.lifted.1 in
    record {
      reads = e.whole;
      writes = subst (λ h. IsRunOf h b) c.in_ok-whole.ensures.target w.run;
      word = e.whole_word;
      pair = subst (λ r. Pairs c.args.through.now r b.word) (l.word ∙ e.part_word) (subst (Pairs c.args.through.now c.in_ok-pairs.pairs.word) (sym w.word)
          (subst (λ u. Pairs u c.in_ok-pairs.pairs.word c.in_ok-lifted.lifted.0) c.in_ok-whole.ensures.through w.pair));
      total = ap (add_costs (run_total c.in_ok-apart.apart.whole)) (w.total ∙ ap₂ total_of l.costs l.last) ∙ e.total;
    }
