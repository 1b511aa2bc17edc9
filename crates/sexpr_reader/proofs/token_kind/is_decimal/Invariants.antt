use Rattle.std.proofs.Common.{◌==◌, not, IsTrue, take}
use Rattle.std.specs.List.{list_all}
use Rattle.sexpr_reader.proofs.token_kind.is_decimal.Given as goal

abbrev pub invariant-loop-i : goal.invariant-loop-i
invariant-loop-i l = IsTrue (list_all (λ b. not (b == 46)) (take l.i l.bytes))
