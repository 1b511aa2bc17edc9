use Rattle.std.proofs.Common.{refl}
use Rattle.regex_machine.proofs.sides.MeetSide.outside.Goals as goal

pub returns : goal.returns
returns c = record { words = c.of-others.ensures.language; size = refl }
