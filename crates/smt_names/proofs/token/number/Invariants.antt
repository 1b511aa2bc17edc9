use Rattle.std.proofs.Common.{◌≡◌, drop, pos, unsigned_abs}
use Rattle.smt_names.specs.Tokens.{value_from}
use Rattle.smt_names.proofs.token.number.Given as goal

abbrev pub invariant-loop-digit : goal.invariant-loop-digit
invariant-loop-digit l = (value_from (unsigned_abs l.n) (drop l.digit-index l.digits) ≡ value_from 0 l.digits) × (l.n ≡ pos (unsigned_abs l.n))
