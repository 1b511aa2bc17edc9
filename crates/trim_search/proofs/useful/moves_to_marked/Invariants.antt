use Rattle.std.proofs.Common.{take}
use Rattle.trim_search.specs.Useful.{AreKept}
use Rattle.trim_search.proofs.useful.moves_to_marked.Given as goal

abbrev pub invariant-loop-place : goal.invariant-loop-place
invariant-loop-place l = AreKept l.edges (take l.place-index l.places) l.marks l.kept
