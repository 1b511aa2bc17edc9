use Rattle.std.proofs.Common.{◌≡◌, drop, take}
use Rattle.term_eval.proofs.derivative.behind_front.Given as goal

abbrev pub invariant-loop-i : goal.invariant-loop-i
invariant-loop-i l = l.rest ≡ drop 1 (take l.i l.text)
