use Rattle.std.proofs.Common.{sym, ap, ◌∙◌, slice_set}
use Rattle.term_weight.specs.declared.tally.MacroSummary.{MacroSummary}
use Rattle.term_weight.specs.Summaries.{used_at}
use Rattle.term_weight.proofs.Sharing.{change-some}
use Rattle.term_weight.proofs.tally.MacroSummary.use_at.Goals as goal

pub returns-in-Some : goal.returns-in-Some
returns-in-Some c =
    let us = c.args.self.now.uses in
    ap {B = MacroSummary} (λ z. record { own = c.args.self.now.own; uses = z }) (
    c.set.ensures
    ∙ ap (slice_set us c.args.place) c.with-uses.ensures
    ∙ change-some (used_at c.args.depth) us c.args.place c.in-Some.uses.now (sym c.in-Some.ensures.value))
