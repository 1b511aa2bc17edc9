use Rattle.std.proofs.Common.{◌≡◌, ℕ, ◌<◌, Some, slice_get}
use Rattle.machine_core.specs.declared.edge.Edge.{Edge}
use Rattle.backward.specs.Ways.{LeadOn}
use Rattle.backward.proofs.pairs.is_closed_by.Given as goal

-- none of the steps before this one leads out
abbrev pub invariant-loop-j : goal.invariant-loop-j
invariant-loop-j l = (j : ℕ) (d : Edge) → j < l.j → slice_get l.seconds j ≡ Some d → LeadOn l.way l.rows l.first d
