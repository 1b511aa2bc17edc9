use Rattle.std.proofs.Common.{◌≡◌, ◌++◌, take}
use Rattle.term_walk.proofs.binding.bind.Given as goal

abbrev pub invariant-loop-binding : goal.invariant-loop-binding
invariant-loop-binding l = l.scope ≡ l.fn.scope ++ take l.binding-index l.bound
