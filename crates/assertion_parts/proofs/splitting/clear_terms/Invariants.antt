use Rattle.std.proofs.Common.{◌≡◌, take}
use Rattle.sv_terms.specs.Truth.{clear_of}
use Rattle.assertion_parts.proofs.splitting.clear_terms.Given as goal

abbrev pub invariant-loop-term : goal.invariant-loop-term
invariant-loop-term l = l.clear ≡ clear_of (take l.term-index l.terms)
