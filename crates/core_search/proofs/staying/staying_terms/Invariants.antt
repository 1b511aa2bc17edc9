use Rattle.std.proofs.Common.{◌≡◌, take}
use Rattle.core_search.specs.Cores.{staying}
use Rattle.core_search.proofs.staying.staying_terms.Given as goal

-- what stays of the terms so far
abbrev pub invariant-loop-at : goal.invariant-loop-at
invariant-loop-at l = l.stay ≡ staying l.outs (take l.at l.terms)
