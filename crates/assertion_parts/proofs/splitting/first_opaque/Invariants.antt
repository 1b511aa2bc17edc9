use Rattle.std.proofs.Common.{◌≡◌, take, []}
use Rattle.sv_terms.specs.Truth.{opaque_of}
use Rattle.assertion_parts.proofs.splitting.first_opaque.Given as goal

abbrev pub invariant-loop-term : goal.invariant-loop-term
invariant-loop-term l = opaque_of (take l.term-index l.terms) ≡ []
