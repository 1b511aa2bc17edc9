use Rattle.std.proofs.Common.{◌≡◌, ◌++◌, map, take, drop}
use Rattle.sv_linear.specs.Quotients.{divided_term}
use Rattle.sv_linear.proofs.terms.divide_terms.Given as goal

abbrev pub invariant-loop-term : goal.invariant-loop-term
invariant-loop-term l = l.terms ≡ map (divided_term l.by) (take l.term-index l.initial.terms) ++ drop l.term-index l.initial.terms
