use Rattle.std.proofs.Common.{rules}
use Rattle.straight_line.proofs.Leads.{range_more}
use Rattle.straight_line.proofs.identifying.own_places.Goals as goal

pub loop-place-preserved : goal.loop-place-preserved
loop-place-preserved c = let e = range_more c.loop-place.place in search (rules, e)
