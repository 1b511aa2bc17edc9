use Rattle.std.proofs.Common.{◌≡◌, ◌∷◌, take}
use Rattle.std.specs.String.{string_bytes}
use Rattle.sv_word.specs.Literals.{quote, spelled}
use Rattle.sv_word.proofs.printing.print_literal.Given as goal

abbrev pub invariant-loop-c : goal.invariant-loop-c
invariant-loop-c l = string_bytes l.literal ≡ quote ∷ spelled (take l.c-index l.c-items)
