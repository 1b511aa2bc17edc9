use Rattle.std.proofs.Common.{ℕ, [], take, Contains}
use Rattle.machine_core.specs.Edges.{EndsAt}
use Rattle.subset_machine.proofs.subset.may_end.Given as goal

abbrev pub invariant-loop-s : goal.invariant-loop-s
invariant-loop-s l = (s : ℕ) → Contains (take l.s-index l.list) s → EndsAt l.machine.ends s [] → ⊥
