use Rattle.std.proofs.Common.{◌∙◌, ap, subst, sym, refl, get_or, take_all}
use Rattle.straight_line.proofs.Arranged.{IsArranged, arranged_next, arranged_none}
use Rattle.straight_line.specs.Waiting.{picked}
use Rattle.straight_line.proofs.arranging.arrange.Goals as goal

pub loop-place-init : goal.loop-place-init
loop-place-init c = subst (IsArranged c.args.definitions c.args.places.now 0 c.in_ok-slots.slots.items) (sym c.new-arranged.ensures) (arranged_none c.args.definitions c.args.places.now c.in_ok-slots.slots.items c.in_ok-slots.ensures)

pub loop-place-preserved : goal.loop-place-preserved
loop-place-preserved c = arranged_next c.args.definitions c.args.places.now c.loop-place.place-index c.loop-place.slots.items c.loop-place.arranged c.requires (get_or c.args.places.now c.loop-place.place-index 0) c.loop-place-test.true refl c.loop-place.invariant c.transfer.new.slots.items c.transfer.new.arranged c.in_ok-transfer.ensures.slots c.in_ok-transfer.ensures.arranged

pub returns : goal.returns
returns c = c.loop-place.invariant.done ∙ ap (picked c.args.definitions) (take_all c.loop-place.place-index c.args.places.now c.loop-place-test.false)
