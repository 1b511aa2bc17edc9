use Rattle.std.proofs.Common.{arith, subst, sym}
use Rattle.std.specs.List.{AllByRecursion}
use Rattle.flat_cubes.specs.Satisfying.{MeetsPart}
use Rattle.length_rows.proofs.RowLemmas.{all-at}
use Rattle.length_rows.proofs.part_rows.push_variable.Goals as goal

pub loop-part-preserved : goal.loop-part-preserved
loop-part-preserved c = λ x w m e h.
    c.in_ok-push_part.ensures x w (subst (MeetsPart w) (sym c.part-item.is) (all-at (MeetsPart w) c.as_slice-part-items.result.now c.loop-part.part-index c.part-item.result (subst (AllByRecursion (MeetsPart w)) (sym c.as_slice-part-items.ensures) m.1) (omega arith))) e (c.loop-part.invariant x w m e h)
