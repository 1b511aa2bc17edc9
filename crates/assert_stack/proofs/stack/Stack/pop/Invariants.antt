use Rattle.std.proofs.Common.{◌≡◌, drop}
use Rattle.assert_stack.proofs.stack.Stack.pop.Given as goal

-- as many levels less as turns
abbrev pub invariant-loop : goal.invariant-loop
invariant-loop l = l.self ≡ drop l.counter l.fn.self
