use Rattle.std.proofs.Common.{◌≡◌, ◌∙◌, sym, subst, ap, length, Err, rules}
use Rattle.std.specs.List.{AllByRecursion}
use Rattle.sv_linear.specs.Rows.{HasSymmetricEntries}
use Rattle.sv_linear.specs.declared.row.Row.{Row}
use Rattle.flat_cubes.specs.Flattening.{IsFinished, all_bounded}
use Rattle.straight_line.specs.Keeping.{AreQuantitiesBelow}
use Rattle.straight_line.specs.Rowing.{AreRows, AreRowsExactly}
use Rattle.straight_line.specs.Tracing.{IsStraightened}
use Rattle.straight_line.specs.Wording.{IsWording, definitions_by}
use Rattle.straight_line.proofs.Completed.{flat_finished, rows_between, rows_refused, words_refused}
use Rattle.straight_line.proofs.finishing.finish.Goals as goal

pub returns-in_err-words-clause-finished : goal.returns-in_err-words-clause-finished
returns-in_err-words-clause-finished c = λ d h.
    let e : c.from_residual.result ≡ Err c.in_err-words.field-0.0 = search rules in
    let s = subst (λ z. IsStraightened (definitions_by (length c.args.draft.names) z c.args.draft.definitions) (Err c.in_err-words.field-0.0)) c.as_slice.ensures c.in_err-words.ensures in
    subst (IsFinished d) (sym e) (words_refused c.args.draft d h c.in_err-words.field-0.0 s)

pub settle_rows-requires : goal.settle_rows-requires
settle_rows-requires c = let w = c.in_ok-words.ensures in subst (λ n. AreQuantitiesBelow n c.args.draft.quantities) (sym (ap length c.as_slice-2.ensures.value ∙ w.count)) c.requires.quantities

pub returns-in_err-settled-clause-finished : goal.returns-in_err-settled-clause-finished
returns-in_err-settled-clause-finished c = λ d h.
    let e : c.from_residual-in_err-settled.result ≡ Err c.in_err-settled.field-0.0 = search rules in
    let w = subst (λ z. IsWording c.args.draft.names c.args.draft.parts c.args.draft.definitions z c.in_ok-words.words) c.as_slice.ensures c.in_ok-words.ensures in
    let s = c.in_err-settled.ensures.exact d.terms (all_bounded d) (rows_between c.args.draft d h c.as_slice-3.result.now c.as_slice-3.ensures) in
    let r = subst (λ z. AreRowsExactly z d.terms (all_bounded d) c.args.draft.quantities (Err c.in_err-settled.field-0.0)) c.as_slice-2.ensures.value s in
    subst (IsFinished d) (sym e) (rows_refused c.args.draft d h c.requires c.in_ok-words.words w c.in_err-settled.field-0.0 r)

pub returns-clause-finished : goal.returns-clause-finished
returns-clause-finished c = λ d h.
    let w = subst (λ z. IsWording c.args.draft.names c.args.draft.parts c.args.draft.definitions z c.in_ok-words.words) c.as_slice.ensures c.in_ok-words.ensures in
    let s = c.in_ok-settled.ensures.exact d.terms (all_bounded d) (rows_between c.args.draft d h c.as_slice-3.result.now c.as_slice-3.ensures) in
    let r = subst (λ z. AreRows z d.terms (all_bounded d) c.args.draft.quantities c.in_ok-settled.settled) c.as_slice-2.ensures.value s in
    let n = c.in_ok-settled.ensures.numbered (subst (AllByRecursion (λ (row : Row). HasSymmetricEntries row.form)) (sym c.as_slice-3.ensures) h.symmetric) in
    flat_finished c.args.draft d h c.requires c.in_ok-words.words w c.in_ok-settled.settled r n
