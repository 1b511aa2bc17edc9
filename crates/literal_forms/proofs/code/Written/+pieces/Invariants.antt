use Rattle.std.proofs.Common.{◌≡◌, ◌++◌, drop}
use Rattle.literal_forms.proofs.Spelled.{pieces_of}
use Rattle.literal_forms.proofs.code.Written.+pieces.Given as goal

abbrev pub invariant-pieces-loop-i : goal.invariant-pieces-loop-i
invariant-pieces-loop-i l = l.self.numbers ++ pieces_of (drop l.i l.terms) ≡ l.fn.self.numbers ++ pieces_of l.terms
