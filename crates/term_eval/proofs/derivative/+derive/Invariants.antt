use Rattle.std.proofs.Common.{take, drop}
use Rattle.sv_terms.specs.declared.regex.Regex.TheVariants.{Union, Inter}
use Rattle.term_eval.specs.Derivative.{IsDerivative}
use Rattle.term_eval.proofs.Derives.{IsTurn}
use Rattle.term_eval.proofs.derivative.+derive.Given as goal

abbrev pub invariant-derive_one-loop-r : goal.invariant-derive_one-loop-r
invariant-derive_one-loop-r l = IsDerivative (Union (take l.r-index l.rs)) l.c (Union l.parts)

abbrev pub invariant-derive_all-loop-r : goal.invariant-derive_all-loop-r
invariant-derive_all-loop-r l = IsDerivative (Inter (take l.r-index l.rs)) l.c (Inter l.parts)

abbrev pub invariant-derive_in_turn-loop-i : goal.invariant-derive_in_turn-loop-i
invariant-derive_in_turn-loop-i l = IsTurn l.rs (drop l.i l.rs) l.parts l.c
