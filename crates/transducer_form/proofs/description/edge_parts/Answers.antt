use Rattle.std.proofs.Common.{sym, ap, ◌∙◌}
use Rattle.sexpr_reader.specs.declared.sexpr.Sexpr.TheVariants as v
use Rattle.smt_names.specs.Form.{seen}
use Rattle.transducer_form.specs.Written.{edge_if}
use Rattle.transducer_form.proofs.Five.{five-parts}
use Rattle.transducer_form.proofs.description.edge_parts.Goals as goal

pub returns-in-Some : goal.returns-in-Some
returns-in-Some c = ap (λ o. edge_if (seen c.from-item.result) (seen c.low-item.result) (seen c.high-item.result) o (seen c.to-item.result)) c.in-Some.ensures
    ∙ sym (five-parts c.args.edge.now c.as_slice.result.now (c.in-List.is ∙ ap v.List (sym c.as_slice.ensures)) c.from-item.result c.low-item.result c.high-item.result c.items-item.result c.to-item.result c.in-len5.len_at_least c.in-len5.len_below c.from-item.is c.low-item.is c.high-item.is c.items-item.is c.to-item.is)

pub returns-in-None : goal.returns-in-None
returns-in-None c = ap (λ o. edge_if (seen c.from-item.result) (seen c.low-item.result) (seen c.high-item.result) o (seen c.to-item.result)) c.in-None.ensures
    ∙ sym (five-parts c.args.edge.now c.as_slice.result.now (c.in-List.is ∙ ap v.List (sym c.as_slice.ensures)) c.from-item.result c.low-item.result c.high-item.result c.items-item.result c.to-item.result c.in-len5.len_at_least c.in-len5.len_below c.from-item.is c.low-item.is c.high-item.is c.items-item.is c.to-item.is)
