use Rattle.std.proofs.Common.{sym, ap, ◌∙◌}
use Rattle.std.proofs.lemmas.Result.{err_from_is_err_and}
use Rattle.sexpr_reader.specs.declared.sexpr.Sexpr.TheVariants as v
use Rattle.item_passes.proofs.Bound.{let-value, let-body, quantifier-body, value-two, value-few, value-many}
use Rattle.item_passes.proofs.Looking.{look-atom, look-none, look-let, look-quantifier, look-annotated, look-identifier, look-application}
use Rattle.item_passes.proofs.passes.+look.Goals as goal

pub look_value-returns-in-len2 : goal.look_value-returns-in-len2
look_value-returns-in-len2 t c = value-two c.args.pass c.args.binding.now c.as_slice.result.now (c.in-List.is ∙ ap v.List (sym c.as_slice.ensures)) c.value-item.result c.look.result c.in-len2.len_at_least c.in-len2.len_below c.value-item.is c.look.ensures

pub look_value-returns-in_default : goal.look_value-returns-in_default
look_value-returns-in_default t c = value-few c.args.pass c.args.binding.now c.as_slice.result.now (c.in-List.is ∙ ap v.List (sym c.as_slice.ensures)) c.in_default.len_below

pub look_value-returns-in_default-2 : goal.look_value-returns-in_default-2
look_value-returns-in_default-2 t c = value-many c.args.pass c.args.binding.now c.as_slice.result.now (c.in-List.is ∙ ap v.List (sym c.as_slice.ensures)) c.in_default.len_at_least

pub look_let-returns-in_err-look_values-in-List : goal.look_let-returns-in_err-look_values-in-List
look_let-returns-in_err-look_values-in-List t c =
    let exit = err_from_is_err_and c.from_residual-in_err-look_values-in-List.result c.from_residual-in_err-look_values-in-List.ensures.1 in
    rw (exit.1, exit.2) (let-value c.args.pass c.args.parts.now c.bindings-item.result c.body-item.result c.in-len2.len_at_least c.in-len2.len_below c.bindings-item.is c.body-item.is c.as_slice-bindings.result.now (c.in-List.is ∙ ap v.List (sym c.as_slice-bindings.ensures)) c.in_err-look_values-in-List.field-0.0 c.in_ok-at_bindings-in-List.field-0 (sym c.if-not-are_bindings.ensures) c.in_ok-at_bindings-in-List.ensures c.in_err-look_values-in-List.ensures)

pub look_let-returns-in_ok-look_values-in-List : goal.look_let-returns-in_ok-look_values-in-List
look_let-returns-in_ok-look_values-in-List t c = let-body c.args.pass c.args.parts.now c.bindings-item.result c.body-item.result c.in-len2.len_at_least c.in-len2.len_below c.bindings-item.is c.body-item.is c.as_slice-bindings.result.now (c.in-List.is ∙ ap v.List (sym c.as_slice-bindings.ensures)) c.look.result c.in_ok-at_bindings-in-List.field-0 c.in_ok-look_values-in-List.field-0 (sym c.if-not-are_bindings.ensures) c.in_ok-at_bindings-in-List.ensures c.in_ok-look_values-in-List.ensures c.look.ensures

pub look_quantifier-returns-in_ok-at_variables-in-List : goal.look_quantifier-returns-in_ok-at_variables-in-List
look_quantifier-returns-in_ok-at_variables-in-List t c = quantifier-body c.args.pass c.args.parts.now c.variables-item.result c.body-item.result c.in-len2.len_at_least c.in-len2.len_below c.variables-item.is c.body-item.is c.as_slice-variables.result.now (c.in-List.is ∙ ap v.List (sym c.as_slice-variables.ensures)) c.look.result c.in_ok-at_variables-in-List.field-0 (sym c.if-not-are_variables.ensures) (sym c.in_ok-at_variables-in-List.ensures) c.look.ensures

pub look-returns-in-Atom : goal.look-returns-in-Atom
look-returns-in-Atom t c = look-atom c.args.pass c.args.item.now c.in-Atom.field-0 c.in-Atom.field-1 c.at_numeral.result c.in-Atom.is c.at_numeral.ensures

pub look-returns-in-empty : goal.look-returns-in-empty
look-returns-in-empty t c = look-none c.args.pass c.args.item.now c.as_slice.result.now (c.in-List.is ∙ ap v.List (sym c.as_slice.ensures)) c.in-empty.len_below

pub look-returns-in-Let : goal.look-returns-in-Let
look-returns-in-Let t c = look-let c.args.pass c.args.item.now c.as_slice.result.now (c.in-List.is ∙ ap v.List (sym c.as_slice.ensures)) c.first-item.result c.in-len1-up.len_at_least c.first-item.is c.look_let.result c.in-Let.ensures c.look_let.ensures

pub look-returns-in-Quantifier : goal.look-returns-in-Quantifier
look-returns-in-Quantifier t c = look-quantifier c.args.pass c.args.item.now c.as_slice.result.now (c.in-List.is ∙ ap v.List (sym c.as_slice.ensures)) c.first-item.result c.in-len1-up.len_at_least c.first-item.is c.look_quantifier.result c.in-Quantifier.ensures c.look_quantifier.ensures

pub look-returns-in-Annotation : goal.look-returns-in-Annotation
look-returns-in-Annotation t c = look-annotated c.args.pass c.args.item.now c.as_slice.result.now (c.in-List.is ∙ ap v.List (sym c.as_slice.ensures)) c.first-item.result c.in-len1-up.len_at_least c.first-item.is c.look_annotated.result c.in-Annotation.ensures c.look_annotated.ensures

pub look-returns-in-Identifier : goal.look-returns-in-Identifier
look-returns-in-Identifier t c = look-identifier c.args.pass c.args.item.now c.as_slice.result.now (c.in-List.is ∙ ap v.List (sym c.as_slice.ensures)) c.first-item.result c.in-len1-up.len_at_least c.first-item.is c.at_identifier.result c.in-Identifier.ensures c.at_identifier.ensures

pub look-returns-in_ok-look_first-in-Application : goal.look-returns-in_ok-look_first-in-Application
look-returns-in_ok-look_first-in-Application t c = look-application c.args.pass c.args.item.now c.as_slice.result.now (c.in-List.is ∙ ap v.List (sym c.as_slice.ensures)) c.first-item.result c.in-len1-up.len_at_least c.first-item.is c.look_all.result c.in_ok-look_first-in-Application.field-0 c.in-Application.ensures c.in_ok-look_first-in-Application.ensures c.look_all.ensures
