use Rattle.std.proofs.Common.{◌∙◌, ◌^◌, ap, sym, take, pos, length, true, false, get_or, take_all}
use Rattle.std.specs.Prelude.{slice_set}
use Rattle.straight_line.specs.Columns.{marked_by}
use Rattle.straight_line.proofs.Marks.{marked_count, marked_exact, marked_more}
use Rattle.straight_line.proofs.columns.mark.Goals as goal

pub loop-unknown-preserved : goal.loop-unknown-preserved
loop-unknown-preserved c = c.put.ensures ∙ ap (λ z. slice_set z (get_or c.args.terms.now c.loop-unknown.unknown-index (0, pos 0)).0 true) c.loop-unknown.invariant ∙ sym (marked_more c.args.terms.now c.loop-unknown.unknown-index (0, pos 0) c.args.used.now c.loop-unknown-test.true)

pub returns-clause-count : goal.returns-clause-count
returns-clause-count c = ap length c.loop-unknown.invariant ∙ marked_count (take c.loop-unknown.unknown-index c.args.terms.now) c.args.used.now

pub returns-clause-exact : goal.returns-clause-exact
returns-clause-exact c = λ u l. ap (λ z. get_or z u false) (c.loop-unknown.invariant ∙ ap (λ z. marked_by z c.args.used.now) (take_all c.loop-unknown.unknown-index c.args.terms.now c.loop-unknown-test.false)) ∙ marked_exact 0 (2 ^ 32) c.args.terms.now c.args.used.now u c.requires l
