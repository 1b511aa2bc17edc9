use Rattle.straight_line.proofs.Called.{names_sorted}
use Rattle.straight_line.proofs.form_laws.names_are_sorted.Goals as goal

pub returns : goal.returns
returns c = names_sorted
