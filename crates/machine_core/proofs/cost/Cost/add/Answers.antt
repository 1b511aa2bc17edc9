use Rattle.std.proofs.Common.{◌≡◌, length, arith, add-one, take, sym, ◌∙◌}
use Rattle.machine_core.specs.Costs.{add_costs}
use Rattle.machine_core.proofs.CostLemmas.{take-add_costs, take-all_costs}
use Rattle.machine_core.proofs.cost.Cost.add.Goals as goal

pub loop-i-preserved : goal.loop-i-preserved
loop-i-preserved c =
    let below = rw c.as_slice-x-items.ensures at c.loop-i-test.true in
    let so_far : c.loop-i.sum ≡ take c.loop-i.i (add_costs c.args.self.now c.args.other.now) = c.loop-i.invariant in
    let pushed = rw (c.as_slice-x-items.ensures, c.as_slice-right.ensures, so_far) at c.in_ok-push.ensures.ok in
    rw add-one (pushed ∙ sym (take-add_costs c.args.self.now c.args.other.now c.loop-i.i c.requires.same below))

pub returns : goal.returns
returns c =
    let so_far : c.loop-i.sum ≡ take c.loop-i.i (add_costs c.args.self.now c.args.other.now) = c.loop-i.invariant in
    let same = c.as_slice-x-items.ensures in
    let low = c.loop-i-test.false in
    let high = c.loop-i.auto.i-end in
    let at : c.loop-i.i ≡ length c.as_slice-x-items.result.now = omega arith in
    so_far ∙ rw (at, same) (take-all_costs c.args.self.now c.args.other.now c.requires.same)
