use Rattle.std.proofs.Common.{◌≡◌, ℕ, ◌*◌, ◌<◌, suc, slice_get, Some}
use Rattle.machine_core.specs.declared.graph.Graph.{Graph}
use Rattle.total_marks.specs.Marks.{EdgesPass, EndsPass}
use Rattle.total_marks.proofs.covering.are_closed.Given as goal

abbrev pub invariant-loop-at : goal.invariant-loop-at
invariant-loop-at l = record {
  edges : (i : ℕ) (m : Graph) → i < l.at → slice_get l.machines i ≡ Some m → EdgesPass l.marks.words l.marks.width (i * l.states) m.edges;
  ends : (i : ℕ) (m : Graph) → i < l.at → slice_get l.machines i ≡ Some m → EndsPass l.marks.words l.marks.width (i * l.states) (suc i * l.states) m.ends;
}
