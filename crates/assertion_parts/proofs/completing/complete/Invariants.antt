use Rattle.std.proofs.Common.{[], take}
use Rattle.sv_terms.specs.Truth.{clear_of}
use Rattle.assertion_parts.specs.Filling.{FillsAll}
use Rattle.assertion_parts.proofs.completing.complete.Given as goal

abbrev pub invariant-loop-term : goal.invariant-loop-term
invariant-loop-term l = FillsAll l.given (clear_of (take l.term-index l.terms)) [] l.full
