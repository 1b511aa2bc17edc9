use Rattle.std.proofs.Common.{OnOk, sym, ap, ◌∙◌, subst, arith, take_all}
use Rattle.sv_list.specs.Lists.{OnOk-weaker}
use Rattle.sv_terms.specs.declared.term.Term.{Term}
use Rattle.sv_terms.specs.declared.term.Term.TheVariants as v
use Rattle.assertion_parts.specs.Filling.{Fills, FillsAll}
use Rattle.assertion_parts.proofs.Fillings.{fills-Constant, fills-Apply, fills-InRe, fills-Related, fills-more}
use Rattle.assertion_parts.proofs.completing.+fill.Goals as goal

pub fill-returns-in-Constant : goal.fill-returns-in-Constant
fill-returns-in-Constant t c =
    subst (λ (z : Term). OnOk c.fill_one.result (Fills c.args.given.now z c.args.full.now c.fill_one.new.full)) (sym c.in-Constant.is)
    (OnOk-weaker c.fill_one.result c.fill_one.ensures (λ e. fills-Constant c.args.given.now c.args.full.now c.fill_one.new.full c.in-Constant.name c.in-Constant.sort e))

pub fill-returns-in-Apply : goal.fill-returns-in-Apply
fill-returns-in-Apply t c =
    let is = c.in-Apply.is ∙ ap (v.Apply c.in-Apply.field-0) (sym c.as_slice.ensures) in
    subst (λ (z : Term). OnOk c.fill_all.result (Fills c.args.given.now z c.args.full.now c.fill_all.new.full)) (sym is)
    (OnOk-weaker c.fill_all.result c.fill_all.ensures (λ e. fills-Apply c.args.given.now c.args.full.now c.fill_all.new.full c.in-Apply.field-0 c.as_slice.result.now e))

pub fill-returns-in-InRe : goal.fill-returns-in-InRe
fill-returns-in-InRe t c =
    let is = c.in-InRe.is ∙ ap (λ z. v.InRe z c.in-InRe.field-1) (sym c.get.ensures) in
    subst (λ (z : Term). OnOk c.fill.result (Fills c.args.given.now z c.args.full.now c.fill.new.full)) (sym is)
    (OnOk-weaker c.fill.result c.fill.ensures (λ e. fills-InRe c.args.given.now c.args.full.now c.fill.new.full c.get.result.now c.in-InRe.field-1 e))

pub fill-returns-in_ok-fill-in-Related : goal.fill-returns-in_ok-fill-in-Related
fill-returns-in_ok-fill-in-Related t c =
    let is = c.in-Related.is ∙ sym (λ i. v.Related c.in-Related.field-0 (c.get-in-Related.ensures i) (c.get-in-Related-2.ensures i)) in
    subst (λ (z : Term). OnOk c.fill-in-Related-2.result (Fills c.args.given.now z c.args.full.now c.fill-in-Related-2.new.full)) (sym is)
    (OnOk-weaker c.fill-in-Related-2.result c.fill-in-Related-2.ensures
    (λ e. fills-Related c.args.given.now c.args.full.now c.fill-in-Related.new.full c.fill-in-Related-2.new.full c.in-Related.field-0 c.get-in-Related.result.now c.get-in-Related-2.result.now c.in_ok-fill-in-Related.ensures e))

pub fill_all-loop-term-preserved : goal.fill_all-loop-term-preserved
fill_all-loop-term-preserved t c =
    fills-more c.args.given.now c.args.full.now c.loop-term.full c.fill.new.full c.args.terms.now c.loop-term.term-index c.term-item.result c.term-item.result c.loop-term-test.true (sym c.term-item.is) c.loop-term.invariant c.in_ok-fill.ensures

pub fill_all-returns : goal.fill_all-returns
fill_all-returns t c =
    subst (λ l. FillsAll c.args.given.now l c.args.full.now c.loop-term.full) (take_all c.loop-term.term-index c.args.terms.now (omega (arith, c.loop-term-test.false))) c.loop-term.invariant
