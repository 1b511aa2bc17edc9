use Rattle.box_layers.proofs.FindLemmas.{widths}
use Rattle.box_layers.proofs.finding.+find.Given as goal

abbrev pub decreases-find : goal.decreases-find
decreases-find l = widths l.sides.now
