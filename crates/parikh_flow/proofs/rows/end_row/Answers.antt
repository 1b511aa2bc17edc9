use Rattle.std.proofs.Common.{◌∙◌, refl}
use Rattle.parikh_flow.proofs.RowLemmas.{ends-added}
use Rattle.parikh_flow.proofs.rows.end_row.Goals as goal

pub returns : goal.returns
returns c = record {
  terms = ends-added c.args.machine.now c.args.base c.end_base.result c.finals.result.now c.as_slice.result.now c.of_constant-form.result c.push_terms.new.form c.finals.ensures (c.as_slice.ensures ∙ c.in_ok-each.ensures)
      c.end_base.ensures c.of_constant-form.ensures.coefficients c.in_ok-push_terms.ensures.added;
  constant = c.in_ok-push_terms.ensures.added.constant ∙ c.of_constant-form.ensures.constant;
  equal = refl;
}
