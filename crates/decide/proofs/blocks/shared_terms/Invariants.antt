use Rattle.std.proofs.Common.{◌≡◌, take}
use Rattle.decide.specs.Passing.{shared_of}
use Rattle.decide.proofs.blocks.shared_terms.Given as goal

abbrev pub invariant-loop-at : goal.invariant-loop-at
invariant-loop-at l = l.all ≡ shared_of l.first (take l.at l.terms)
