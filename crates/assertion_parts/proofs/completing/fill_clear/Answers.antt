use Rattle.std.proofs.Common.{OnOk, sym, ◌∙◌, subst}
use Rattle.sv_list.specs.Lists.{OnOk-weaker}
use Rattle.assertion_parts.specs.Filling.{FillsAll}
use Rattle.assertion_parts.proofs.Fillings.{clear-opaque, clear-plain, fills-no-terms, fills-single}
use Rattle.assertion_parts.proofs.completing.fill_clear.Goals as goal

pub returns-then-has_opaque : goal.returns-then-has_opaque
returns-then-has_opaque c =
    subst (λ l. FillsAll c.args.given.now l c.args.full.now c.args.full.now) (sym (clear-opaque c.args.term.now (sym c.has_opaque.ensures ∙ c.if-has_opaque.true))) (fills-no-terms c.args.given.now c.args.full.now)

pub returns : goal.returns
returns c =
    subst (λ l. OnOk c.fill.result (FillsAll c.args.given.now l c.args.full.now c.fill.new.full)) (sym (clear-plain c.args.term.now (sym c.has_opaque.ensures ∙ c.if-has_opaque.false)))
    (OnOk-weaker c.fill.result c.fill.ensures (λ e. fills-single c.args.given.now c.args.full.now c.fill.new.full c.args.term.now e))
