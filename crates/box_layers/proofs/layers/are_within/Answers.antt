use Rattle.std.proofs.Common.{arith}
use Rattle.box_layers.proofs.SideLemmas.{within-known, within-more}
use Rattle.box_layers.proofs.layers.are_within.Goals as goal
use Rattle.box_layers.proofs.layers.are_within.Goals.{then-total-low-via-then-total-low, then-total-low-via-else-total-low+then-total-high}

pub returns-then-total-low : goal.returns-then-total-low
returns-then-total-low c = (
  (λ e. absurd (cc)),
  (λ h. absurd (let b = within-known c.args.sides.now c.args.totals.now c.loop-register.register (0, 0) h c.loop-register-test.true in
      elim c.then-total-low.branch [ then-total-low-via-then-total-low w ↦ omega arith | then-total-low-via-else-total-low+then-total-high w ↦ omega arith ])),
)

pub loop-register-preserved : goal.loop-register-preserved
loop-register-preserved c =
    within-more c.args.sides.now c.args.totals.now c.loop-register.register (0, 0) c.requires c.loop-register-test.true c.if-total-low.false c.if-total-high.false c.loop-register.invariant
