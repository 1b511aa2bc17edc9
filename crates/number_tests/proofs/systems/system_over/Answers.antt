use Rattle.std.proofs.Common.{List, slice_get, refl, ap, ◌∙◌, arith}
use Rattle.std.proofs.lemmas.Option.{slice_get_within}
use Rattle.sv_linear.specs.Rows.{IsRowWithin}
use Rattle.sv_linear.specs.declared.row.Row.{Row}
use Rattle.number_tests.proofs.LiaBranchRows.{each_more}
use Rattle.number_tests.proofs.systems.system_over.Goals as goal

pub loop-row-preserved : goal.loop-row-preserved
loop-row-preserved c = each_more (IsRowWithin c.args.unknowns) c.as_slice-row-items.result.now c.loop-row.row-index c.row-item.result c.row-item.is c.loop-row.invariant (c.if-not-is_within.ensures.0 refl)

pub returns-clause-rows : goal.returns-clause-rows
returns-clause-rows c = λ i r g.
    let here = ap (λ (l : List Row). slice_get l i) c.as_slice-row-items.ensures ∙ g in
    c.loop-row.invariant i r (let inside = slice_get_within c.as_slice-row-items.result.now i r here in omega (arith, c.loop-row-test.false, inside)) here
