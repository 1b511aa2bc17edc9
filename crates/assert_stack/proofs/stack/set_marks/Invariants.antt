use Rattle.std.proofs.Common.{◌≡◌, ◌++◌, replicate}
use Rattle.assert_stack.proofs.stack.set_marks.Given as goal

-- as many marks more as turns
abbrev pub invariant-loop : goal.invariant-loop
invariant-loop l = l.marks ≡ l.fn.marks ++ replicate l.counter l.mark
