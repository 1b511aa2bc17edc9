use Rattle.std.proofs.Common.{sym, subst}
use Rattle.std.proofs.lemmas.Result.{on_ok_weaker}
use Rattle.sv_terms.specs.declared.term.Term.{Term}
use Rattle.term_weight.specs.Summaries.{share, part, Gains}
use Rattle.term_weight.proofs.Tallying.{gains-Truth, gains-Number, gains-Text, gains-Opaque, gains-Apply, gains-InRe, gains-Related, gains-next}
use Rattle.term_weight.proofs.tally.+tally_term.Goals as goal

pub tally_all-loop-term-preserved : goal.tally_all-loop-term-preserved
tally_all-loop-term-preserved n c = gains-next c.args.places.now c.args.tally.now c.loop-term.tally c.tally_term.new.tally c.args.depth c.args.terms.now c.loop-term.term-index c.term-item.result c.loop-term-test.true c.term-item.is c.loop-term.invariant c.in_ok-tally_term.ensures

pub tally_term-returns-in_ok-tally_all-in-Apply : goal.tally_term-returns-in_ok-tally_all-in-Apply
tally_term-returns-in_ok-tally_all-in-Apply n c =
    let places = c.args.places.now in
    subst (λ (x : Term). Gains places c.args.tally.now c.measure_all.new.tally (λ ws. share c.args.depth (part places ws x))) (sym c.in-Apply.is)
    (gains-Apply places c.args.tally.now c.leaf-in-Apply.new.tally c.tally_all.new.tally c.measure_all.new.tally c.args.depth c.saturating_add.result c.saturating_add.ensures c.leaf-in-Apply.ensures c.in-Apply.op c.in-Apply.terms c.as_slice-terms.result.now c.as_slice-terms.ensures c.in_ok-tally_all-in-Apply.ensures c.measure_all.ensures)

pub tally_term-returns-in_ok-tally_term-in-InRe : goal.tally_term-returns-in_ok-tally_term-in-InRe
tally_term-returns-in_ok-tally_term-in-InRe n c =
    let places = c.args.places.now in
    on_ok_weaker c.tally_regex.result (λ h. subst (λ (x : Term). Gains places c.args.tally.now c.tally_regex.new.tally (λ ws. share c.args.depth (part places ws x))) (sym c.in-InRe.is)
    (gains-InRe places c.args.tally.now c.leaf-in-InRe.new.tally c.tally_term.new.tally c.tally_regex.new.tally c.args.depth c.saturating_add-below.result c.saturating_add-below.ensures c.leaf-in-InRe.ensures c.in-InRe.word c.get.result.now c.in-InRe.regex c.get.ensures c.in_ok-tally_term-in-InRe.ensures h)) c.tally_regex.ensures

pub tally_term-returns-in_ok-tally_term-in-Related : goal.tally_term-returns-in_ok-tally_term-in-Related
tally_term-returns-in_ok-tally_term-in-Related n c =
    let places = c.args.places.now in
    on_ok_weaker c.tally_term-in-Related-2.result (λ h. subst (λ (x : Term). Gains places c.args.tally.now c.tally_term-in-Related-2.new.tally (λ ws. share c.args.depth (part places ws x))) (sym c.in-Related.is)
    (gains-Related places c.args.tally.now c.leaf-in-Related.new.tally c.tally_term-in-Related.new.tally c.tally_term-in-Related-2.new.tally c.args.depth c.saturating_add-below-in-Related.result c.saturating_add-below-in-Related.ensures c.leaf-in-Related.ensures c.in-Related.field-0 c.in-Related.read c.in-Related.written c.get-in-Related.result.now c.get-in-Related-2.result.now c.get-in-Related.ensures c.get-in-Related-2.ensures c.in_ok-tally_term-in-Related.ensures h)) c.tally_term-in-Related-2.ensures

pub tally_term-returns-in-Truth : goal.tally_term-returns-in-Truth
tally_term-returns-in-Truth n c = gains-Truth c.args.places.now c.args.tally.now c.leaf.new.tally c.args.depth c.args.term.now c.in-Truth.field-0 c.in-Truth.is c.leaf.ensures

pub tally_term-returns-in-Number : goal.tally_term-returns-in-Number
tally_term-returns-in-Number n c = gains-Number c.args.places.now c.args.tally.now c.leaf-in-Number.new.tally c.args.depth c.args.term.now c.in-Number.field-0 c.in-Number.is c.leaf-in-Number.ensures

pub tally_term-returns-in-Text : goal.tally_term-returns-in-Text
tally_term-returns-in-Text n c = gains-Text c.args.places.now c.args.tally.now c.leaf-in-Text.new.tally c.args.depth c.args.term.now c.in-Text.field-0 c.in-Text.is c.leaf-in-Text.ensures

pub tally_term-returns-in-Opaque : goal.tally_term-returns-in-Opaque
tally_term-returns-in-Opaque n c = gains-Opaque c.args.places.now c.args.tally.now c.leaf-in-Opaque.new.tally c.args.depth c.args.term.now c.in-Opaque.field-0 c.in-Opaque.is c.leaf-in-Opaque.ensures
