use Rattle.std.proofs.Common.{◌+◌, ◌*◌, ◌∷◌, length, take}
use Rattle.machine_meet.specs.Splits.{AreCostsWide}
use Rattle.machine_meet.proofs.PickLemmas.{NoneOf}
use Rattle.machine_meet.proofs.pick.+pick_back.Given as goal

abbrev pub decreases-pick_back : goal.decreases-pick_back
decreases-pick_back l = 3 * length l.options.now

abbrev pub decreases-pick_one_of : goal.decreases-pick_one_of
decreases-pick_one_of l = 3 * length l.rest.now + 2

abbrev pub decreases-pick_after : goal.decreases-pick_after
decreases-pick_after l = 3 * length l.rest.now + 1

abbrev pub invariant-pick_one_of-loop-cost : goal.invariant-pick_one_of-loop-cost
invariant-pick_one_of-loop-cost l = AreCostsWide (length l.want) (l.costs ∷ l.rest) → NoneOf (take l.cost-index l.costs) l.rest l.want
