use Rattle.std.proofs.Common.{take}
use Rattle.sv_linear.specs.Divisors.{IsContent}
use Rattle.sv_linear.proofs.terms.content_of.Given as goal

abbrev pub invariant-loop-coefficient : goal.invariant-loop-coefficient
invariant-loop-coefficient l = IsContent l.constant (take l.coefficient-index l.terms) l.divisor
