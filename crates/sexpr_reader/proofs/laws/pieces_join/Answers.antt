use Rattle.std.proofs.Common.{subst, append_assoc, false, List, ℕ}
use Rattle.sexpr_reader.specs.Standing.{HasGiven}
use Rattle.sexpr_reader.proofs.laws.pieces_join.Goals as goal

pub returns : goal.returns
returns c = λ reader bytes first second given s. subst (λ (l : List ℕ). HasGiven false reader l given) (append_assoc bytes first second) s
