use Rattle.std.proofs.Common.{ℕ, [], sym, subst, arith}
use Rattle.std.proofs.lemmas.List.Sorted.{IsNonDecreasingBy-short}
use Rattle.subset_machine.specs.Legs.{AreBorders}
use Rattle.subset_machine.proofs.MarkLemmas.{cutting-start, cutting-skip, cutting-cut, marks-made}
use Rattle.subset_machine.proofs.marks.cut.Goals as goal
use Rattle.subset_machine.proofs.marks.cut.Goals.{then-from-border+in_ok-push, else-from-border}

pub loop-border-init : goal.loop-border-init
loop-border-init c = rw c.new-marks.ensures.items (cutting-start c.as_slice-border-items.result.now (IsNonDecreasingBy-short (λ (m : ℕ × ℕ). m.0) [] (omega arith)))

pub loop-border-preserved : goal.loop-border-preserved
loop-border-preserved c =
    let borders = c.as_slice-border-items.result.now in
    let a = subst (AreBorders c.args.legs.now) (sym c.as_slice-border-items.ensures.value) c.in_ok-borders.ensures in
    elim c.if-from-border.branch [
      | then-from-border+in_ok-push w ↦ rw (w.from-is, w.marks-is)
          (cutting-cut c.args.legs.now borders a c.loop-border.border-index c.loop-border.from c.loop-border.marks.items c.loop-border.invariant c.loop-border-test.true _ w.in_ok-push.ensures.items w.if-from-border.true)
      | else-from-border w ↦ rw (w.from-is, w.marks-is)
          (cutting-skip c.args.legs.now borders a c.loop-border.border-index c.loop-border.from c.loop-border.marks.items c.loop-border.invariant c.loop-border-test.true w.if-from-border.false)
    ]

pub returns : goal.returns
returns c =
    let a = subst (AreBorders c.args.legs.now) (sym c.as_slice-border-items.ensures.value) c.in_ok-borders.ensures in
    marks-made c.args.legs.now c.as_slice-border-items.result.now c.loop-border.border-index c.loop-border.from c.loop-border.marks.items a c.loop-border.invariant c.loop-border-test.false
