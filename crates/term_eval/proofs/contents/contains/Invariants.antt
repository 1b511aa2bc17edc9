use Rattle.std.proofs.Common.{◌-◌, length}
use Rattle.term_eval.specs.Advances.{IsRegexLeft}
use Rattle.term_eval.proofs.contents.contains.Given as goal

abbrev pub invariant-loop-at : goal.invariant-loop-at
invariant-loop-at l = IsRegexLeft l.regex l.left l.word l.at

abbrev pub decreases-loop-at : goal.decreases-loop-at
decreases-loop-at l = length l.word - l.at
