use Rattle.std.proofs.Common.{sym, subst, ◌∙◌}
use Rattle.term_weight.specs.declared.tally.MacroSummary.{MacroSummary}
use Rattle.term_weight.specs.Summaries.{share, part_named, Gains}
use Rattle.term_weight.proofs.Tallying.{gains-used}
use Rattle.term_weight.proofs.tally.tally_name.Goals as goal

pub returns-in-Some : goal.returns-in-Some
returns-in-Some c =
    let places = c.args.places.now in
    subst (λ (t : MacroSummary). Gains places c.args.tally.now t (λ ws. share c.args.depth (part_named places ws c.args.name.now)))
    (sym c.use_at.ensures)
    (gains-used places c.args.tally.now c.args.name.now c.in-Some.place c.args.depth (sym c.in-Some.is ∙ c.get.ensures))
