use Rattle.std.proofs.Common.{rules, ℤ, pos, FitsSigned, get_or}
use Rattle.std.specs.Int.{w128}
use Rattle.std.proofs.lemmas.Int.{to_z-of_z}
use Rattle.box_layers.proofs.SideLoops.{mapped-next, mapped-all}
use Rattle.box_layers.proofs.finding.lower_ends.Goals as goal

pub loop-low-preserved : goal.loop-low-preserved
loop-low-preserved c =
    let fl : FitsSigned w128 (get_or c.args.sides.now c.loop-low.low-index (pos 0, pos 0)).0 = search rules in
    mapped-next (λ (s : ℤ × ℤ). s.0) c.args.sides.now c.loop-low.low-index c.loop-low.ends c.push.new.self (pos 0, pos 0) c.loop-low-test.true c.loop-low.invariant
    (rw (to_z-of_z w128 (get_or c.args.sides.now c.loop-low.low-index (pos 0, pos 0)).0 fl) at c.in_ok-push.ensures.ok)

pub returns : goal.returns
returns c = mapped-all (λ (s : ℤ × ℤ). s.0) c.args.sides.now c.loop-low.low-index c.loop-low.ends c.loop-low-test.false c.loop-low.invariant
