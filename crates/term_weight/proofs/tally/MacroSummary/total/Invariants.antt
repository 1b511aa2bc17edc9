use Rattle.std.proofs.Common.{◌≡◌, drop}
use Rattle.term_weight.specs.Summaries.{plus, all_used}
use Rattle.term_weight.proofs.tally.MacroSummary.total.Given as goal

abbrev pub invariant-loop-i : goal.invariant-loop-i
invariant-loop-i l = plus l.sum (all_used (drop l.i l.self.uses) (drop l.i l.weights)) ≡ all_used l.self.uses l.weights
