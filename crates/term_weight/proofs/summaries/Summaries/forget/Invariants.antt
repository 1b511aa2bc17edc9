use Rattle.std.proofs.Common.{length}
use Rattle.term_weight.specs.Macros.{HaveSummaries}
use Rattle.term_weight.proofs.summaries.Summaries.forget.Given as goal

abbrev pub invariant-loop-self : goal.invariant-loop-self
invariant-loop-self l = HaveSummaries l.symbols l.fn.self → HaveSummaries l.symbols l.self

abbrev pub decreases-loop-self : goal.decreases-loop-self
decreases-loop-self l = length l.self
