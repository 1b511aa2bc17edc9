use Rattle.lia_tableau.proofs.NoRepeats.{no_repeat}
use Rattle.lia_tableau.proofs.laws.no_basis_comes_twice.Goals as goal

pub returns : goal.returns
returns c = no_repeat
