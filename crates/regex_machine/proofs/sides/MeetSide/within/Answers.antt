use Rattle.std.proofs.Common.{refl}
use Rattle.regex_machine.proofs.SideLemmas.{side-within}
use Rattle.regex_machine.proofs.sides.MeetSide.within.Goals as goal

pub returns : goal.returns
returns c = record { words = side-within c.args.part.now c.requires; size = refl }
