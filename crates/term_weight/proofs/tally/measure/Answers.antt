use Rattle.std.proofs.Common.{sym, subst, ◌∙◌, not}
use Rattle.sv_terms.specs.declared.term.Term.{Term}
use Rattle.sv_terms.specs.declared.term.Term.TheVariants as term
use Rattle.term_weight.specs.declared.tally.MacroSummary.{MacroSummary}
use Rattle.term_weight.specs.Weights.{is_literal}
use Rattle.term_weight.specs.Summaries.{unknown_if, part, Gains}
use Rattle.term_weight.proofs.Tallying.{measured-parameter, unknown-Truth, unknown-Number, unknown-Apply, unknown-InRe, unknown-Related, unknown-Opaque}
use Rattle.term_weight.proofs.tally.measure.Goals as goal

pub returns-in-Some : goal.returns-in-Some
returns-in-Some c =
    let places = c.args.places.now in
    subst (λ (x : Term). Gains places c.args.tally.now c.measure_at.new.self (λ ws. unknown_if (not (is_literal (part places ws x).factor)))) (sym c.in-Constant.is)
    (subst (λ (t : MacroSummary). Gains places c.args.tally.now t (λ ws. unknown_if (not (is_literal (part places ws (term.Constant c.in-Constant.name c.in-Constant.field-1)).factor))))
    (sym c.measure_at.ensures)
    (measured-parameter places c.args.tally.now c.in-Constant.name c.in-Constant.field-1 c.in-Some.place (sym c.in-Some.is ∙ c.get.ensures)))

pub returns-in-Truth : goal.returns-in-Truth
returns-in-Truth c = unknown-Truth c.args.places.now c.args.tally.now c.raise-in-Truth.new.self c.unknown-in-Truth.result c.args.term.now c.in-Truth.field-0 c.in-Truth.is c.unknown-in-Truth.ensures c.raise-in-Truth.ensures

pub returns-in-Number : goal.returns-in-Number
returns-in-Number c = unknown-Number c.args.places.now c.args.tally.now c.raise-in-Number.new.self c.unknown-in-Number.result c.args.term.now c.in-Number.field-0 c.in-Number.is c.unknown-in-Number.ensures c.raise-in-Number.ensures

pub returns-in-Apply : goal.returns-in-Apply
returns-in-Apply c = unknown-Apply c.args.places.now c.args.tally.now c.raise-in-Apply.new.self c.unknown-in-Apply.result c.args.term.now c.in-Apply.field-0 c.in-Apply.field-1 c.in-Apply.is c.unknown-in-Apply.ensures c.raise-in-Apply.ensures

pub returns-in-InRe : goal.returns-in-InRe
returns-in-InRe c = unknown-InRe c.args.places.now c.args.tally.now c.raise-in-InRe.new.self c.unknown-in-InRe.result c.args.term.now c.in-InRe.field-0 c.in-InRe.field-1 c.in-InRe.is c.unknown-in-InRe.ensures c.raise-in-InRe.ensures

pub returns-in-Related : goal.returns-in-Related
returns-in-Related c = unknown-Related c.args.places.now c.args.tally.now c.raise-in-Related.new.self c.unknown-in-Related.result c.args.term.now c.in-Related.field-0 c.in-Related.field-1 c.in-Related.field-2 c.in-Related.is c.unknown-in-Related.ensures c.raise-in-Related.ensures

pub returns-in-Opaque : goal.returns-in-Opaque
returns-in-Opaque c = unknown-Opaque c.args.places.now c.args.tally.now c.raise-in-Opaque.new.self c.unknown-in-Opaque.result c.args.term.now c.in-Opaque.field-0 c.in-Opaque.is c.unknown-in-Opaque.ensures c.raise-in-Opaque.ensures
