use Rattle.std.proofs.Common.{take, Ok}
use Rattle.term_walk.specs.Meant.{as_constants, renamed}
use Rattle.term_walk.specs.Walks.{Bound, Read}
use Rattle.term_walk.proofs.binding.constants.Given as goal

abbrev pub invariant-loop-variable : goal.invariant-loop-variable
invariant-loop-variable l = Read Bound (λ t. Ok (as_constants (renamed l.are_parameters) (take l.variable-index l.variables))) l.fn.walk l.walk l.all
