use Rattle.std.proofs.Common.{◌≡◌, ℕ, ◌<◌, Some, slice_get}
use Rattle.machine_core.specs.declared.edge.Edge.{Edge}
use Rattle.backward.specs.Ways.{LeadOn}
use Rattle.backward.proofs.pairs.is_closed.Given as goal

-- none of the steps before this one leads out
abbrev pub invariant-loop-i : goal.invariant-loop-i
invariant-loop-i l = (i j : ℕ) (e d : Edge) → i < l.i → slice_get l.firsts i ≡ Some e → slice_get l.seconds j ≡ Some d → LeadOn l.way l.rows e d
