use Rattle.std.proofs.Common.{take}
use Rattle.assertion_parts.specs.Filling.{FillsAll}
use Rattle.assertion_parts.proofs.completing.+fill.Given as goal

abbrev pub invariant-fill_all-loop-term : goal.invariant-fill_all-loop-term
invariant-fill_all-loop-term l = FillsAll l.given (take l.term-index l.terms) l.fn.full l.full
