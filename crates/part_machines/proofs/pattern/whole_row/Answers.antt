use Rattle.std.proofs.Common.{ap, slice_get, sym, ◌∙◌}
use Rattle.std.proofs.lemmas.Result.{IfOk-weaker}
use Rattle.part_machines.proofs.PatternLemmas.{whole-back}
use Rattle.part_machines.proofs.pattern.whole_row.Goals as goal

pub returns-clause-next : goal.returns-clause-next
returns-clause-next c = IfOk-weaker c.spread_row.result _ _ (λ row.
    whole-back c.args.stays c.args.pattern.now c.args.automaton.now.rows c.row_at.result.now c.args.automaton.now.border row c.if-stays.false c.requires.length c.requires.rows c.requires.border
    (sym (ap (λ l. slice_get l c.args.automaton.now.border) c.as_slice-rows.ensures) ∙ c.row_at.ensures)) c.spread_row.ensures.row
