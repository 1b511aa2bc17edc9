use Rattle.std.proofs.Common.{◌≡◌, ◌++◌}
use Rattle.literal_forms.proofs.Spelled.{begun}
use Rattle.literal_forms.proofs.code.Written.text.Given as goal

abbrev pub invariant-loop-i : goal.invariant-loop-i
invariant-loop-i l = l.self.numbers ≡ l.fn.self.numbers ++ begun l.text l.i
