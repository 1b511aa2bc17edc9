use Rattle.std.proofs.Common.{◌≡◌, replicate}
use Rattle.term_weight.specs.Summaries.{unused}
use Rattle.term_weight.proofs.tally.MacroSummary.empty.Given as goal

abbrev pub invariant-loop : goal.invariant-loop
invariant-loop l = l.uses ≡ replicate l.counter unused
