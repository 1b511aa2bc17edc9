use Rattle.std.proofs.Common.{length, ap, refl, arith}
use Rattle.std.proofs.lemmas.List.{length-map}
use Rattle.std.proofs.lemmas.List.Elements.{All-from_get_or}
use Rattle.farkas_check.specs.Cuts.{values_of}
use Rattle.farkas_check.specs.Systems.{Meets, constraint_of, no_constraint, rows_of}
use Rattle.lia_reduce.proofs.FormValues.{meets-more}
use Rattle.lia_reduce.proofs.filling.meets.Goals as goal

pub loop-row-preserved : goal.loop-row-preserved
loop-row-preserved c =
    meets-more (values_of c.args.point.now) c.args.system.now.rows c.as_slice-row-items.result.now c.loop-row.row-index c.row-item.result c.as_slice-row-items.ensures c.row-item.is c.loop-row-test.true c.loop-row.invariant (c.if-not-meets_row.ensures refl)

pub returns : goal.returns
returns c = λ told.
    All-from_get_or (Meets (values_of c.args.point.now)) (rows_of c.args.system.now) no_constraint
    (λ k h. c.loop-row.invariant k (let s = ap length c.as_slice-row-items.ensures in let m = length-map c.args.system.now.rows constraint_of in omega (arith, c.loop-row-test.false, s, m, h)))
