use Rattle.machine_meet.specs.Products.{meet_width}
use Rattle.machine_meet.proofs.MeetRuns.{meets-all}
use Rattle.machine_meet.proofs.meet.Meet.of.Goals as goal

pub returns-clause-language : goal.returns-clause-language
returns-clause-language g c = meets-all g.P.Machine.ends_with g.P.Machine.steps_to (meet_width g.P.Machine.width c.args.parts.now) g.P.Machine.first c.args.parts.now
