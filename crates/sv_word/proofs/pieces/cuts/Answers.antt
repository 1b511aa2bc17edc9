use Rattle.std.proofs.Common.{sym, subst, arith}
use Rattle.sv_word.proofs.CutLemmas.{AreBorders, Tiles, cutting-skip, cutting-cut, cutting-end, tiles-inhabited, tiles-held, tiles-disjoint, tiles-uniform, tiles-coarse}
use Rattle.sv_word.proofs.pieces.cuts.Goals as goal
use Rattle.sv_word.proofs.pieces.cuts.Goals.{then-from-border+in_ok-of+in_ok-push, else-from-border}

pub loop-border-preserved : goal.loop-border-preserved
loop-border-preserved c =
    let borders = c.as_slice-border-items.result.now in
    let told = c.in_ok-borders.ensures in
    let a : AreBorders c.args.list.now borders =
    (subst (AreBorders c.args.list.now) (sym c.as_slice-border-items.ensures.value) record { same = told.borders; top = told.top; order = told.order; apart = told.apart }) in
    elim c.if-from-border.branch [
      | then-from-border+in_ok-of+in_ok-push w ↦ rw (w.from-is, w.pieces-is, w.in_ok-push.ensures.items)
          (cutting-cut c.args.list.now borders a c.loop-border.border-index c.loop-border.from c.loop-border.pieces.items c.loop-border.invariant c.loop-border-test.true
          w.in_ok-of.field-0 w.if-from-border.true (w.in_ok-of.ensures.inhabited (omega arith)) w.in_ok-of.ensures.set)
      | else-from-border w ↦ rw (w.from-is, w.pieces-is)
          (cutting-skip c.args.list.now borders a c.loop-border.border-index c.loop-border.from c.loop-border.pieces.items c.loop-border.invariant c.loop-border-test.true w.if-from-border.false)
    ]

pub returns : goal.returns
returns c =
    let borders = c.as_slice-border-items.result.now in
    let told = c.in_ok-borders.ensures in
    let a : AreBorders c.args.list.now borders =
    (subst (AreBorders c.args.list.now) (sym c.as_slice-border-items.ensures.value) record { same = told.borders; top = told.top; order = told.order; apart = told.apart }) in
    let t : Tiles borders 0 c.loop-border.pieces.items 0x30000 = cutting-end c.args.list.now borders a c.loop-border.border-index c.loop-border.from c.loop-border.pieces.items c.loop-border.invariant (omega arith) in
    record {
      inhabited = tiles-inhabited borders 0 c.loop-border.pieces.items 0x30000 t;
      covering = λ d le. tiles-held borders 0 c.loop-border.pieces.items 0x30000 t d (omega arith) (omega arith);
      disjoint = tiles-disjoint borders 0 c.loop-border.pieces.items 0x30000 t;
      uniform = tiles-uniform c.args.list.now borders 0 c.loop-border.pieces.items 0x30000 a t;
      coarse = tiles-coarse c.args.list.now borders c.loop-border.pieces.items a t;
    }
