use Rattle.std.proofs.Common.{◌≡◌, ◌++◌, drop}
use Rattle.literal_forms.proofs.Spelled.{each_of}
use Rattle.literal_forms.proofs.code.Written.+codes.Given as goal

abbrev pub invariant-each-loop-i : goal.invariant-each-loop-i
invariant-each-loop-i l = l.self.numbers ++ each_of (drop l.i l.terms) ≡ l.fn.self.numbers ++ each_of (drop l.from l.terms)
