use Rattle.std.proofs.Common.{ℕ, List, Bool}
use Rattle.sexpr_reader.specs.declared.sexpr.Sexpr.{Sexpr}
use Rattle.sexpr_reader.specs.Standing.{HasGiven}
use Rattle.sexpr_reader.specs.Progress.{work}
use Rattle.sexpr_reader.proofs.reader.Reader.read_on.Given as goal

abbrev pub invariant-bytes : goal.invariant-bytes
invariant-bytes l = (ended : Bool) (bytes : List ℕ) (given : List Sexpr) → HasGiven ended l.fn.self bytes given → HasGiven ended l.self bytes given

abbrev pub decreases-bytes : goal.decreases-bytes
decreases-bytes l = work l.self
