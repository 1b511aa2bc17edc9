use Rattle.std.proofs.Common.{◌≡◌, ◌-◌, ◌<◌, drop}
use Rattle.sv_terms.specs.Meaning.{chained}
use Rattle.term_eval.specs.Orders.{relation}
use Rattle.term_eval.proofs.comparing.IntComparison.chains.Given as goal

-- what is left chains exactly where all do
abbrev pub invariant-loop-i : goal.invariant-loop-i
invariant-loop-i l = (0 < l.i) × (chained (relation l.self) l.numbers ≡ chained (relation l.self) (drop (l.i - 1) l.numbers))
