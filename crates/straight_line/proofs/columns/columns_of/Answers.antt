use Rattle.std.proofs.Common.{◌∙◌, ◌||◌, ◌^◌, ap, subst, sym, false, get_or, Some}
use Rattle.std.proofs.lemmas.Option.{slice_get-get_or}
use Rattle.sv_linear.specs.Terms.{AscendsWithin}
use Rattle.straight_line.specs.Columns.{has_term}
use Rattle.straight_line.proofs.Marks.{columns_all, columns_more, columns_none}
use Rattle.straight_line.proofs.columns.columns_of.Goals as goal

pub mark-requires : goal.mark-requires
mark-requires c = subst (AscendsWithin 0 (2 ^ 32)) (sym c.as_slice-terms.ensures) c.row-item.result.form.ascending

pub loop-row-init : goal.loop-row-init
loop-row-init c = columns_none c.args.unknowns c.args.rows.now c.in_ok-used.used c.in_ok-used.ensures

pub loop-row-preserved : goal.loop-row-preserved
loop-row-preserved c =
    columns_more c.args.unknowns c.args.rows.now c.loop-row.row-index c.row-item.result c.loop-row.used c.mark.new.used c.loop-row-test.true (slice_get-get_or c.args.rows.now c.loop-row.row-index c.row-item.result c.loop-row-test.true ∙ ap Some (sym c.row-item.is)) c.loop-row.invariant c.mark.ensures.count
    (λ u l. c.mark.ensures.exact u l ∙ ap (λ z. get_or c.loop-row.used u false || has_term u z) c.as_slice-terms.ensures)

pub returns-clause-count : goal.returns-clause-count
returns-clause-count c = c.loop-row.invariant.count

pub returns-clause-exact : goal.returns-clause-exact
returns-clause-exact c = columns_all c.args.unknowns c.args.rows.now c.loop-row.row-index c.loop-row.used c.loop-row-test.false c.loop-row.invariant
