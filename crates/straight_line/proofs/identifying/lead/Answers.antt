use Rattle.straight_line.proofs.Leads.{led_on}
use Rattle.straight_line.proofs.identifying.lead.Goals as goal

pub loop-above-preserved : goal.loop-above-preserved
loop-above-preserved c = led_on c.args.above.now c.loop-above.above c.args.place c.loop-above.at c.loop-above.invariant c.loop-above-test.true
