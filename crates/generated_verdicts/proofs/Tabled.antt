-- A right verdict on a block is the table's.
use Rattle.std.proofs.Common.{◌≡◌, ℕ, zero, suc, ◌+◌, ◌≤◌, Bool, true, false, not, refl, subst, arith}
use Rattle.decide.specs.Completeness.{IsComplete, MustDecide}
use Rattle.decide.specs.Verdicts.{RightVerdict}
use Rattle.decide.specs.declared.verdict.Verdict.{Verdict}
use Rattle.decide.specs.declared.verdict.Verdict.TheVariants.{Sat, Unsat, Unknown}
use Rattle.generated_script.specs.Draws.{behind, seeded}
use Rattle.generated_script.specs.declared.shape.Shape.{Shape as Block}
use Rattle.generated_terms.specs.Terms.{has_values, terms_of}
use Rattle.generated_terms.proofs.Answered as answered
use Rattle.generated_verdicts.specs.Table.{IsVerdictBy, one_if, is_sat_at, sat_from, unsat_from, sat_count, unsat_count}
use Rattle.generated_verdicts.proofs.Owed.{must_decide}
use Rattle.sv_terms.specs.Truth.{HasNoValues}

by_answer : (block : Block) (k : ℕ) (b : Bool) → has_values block k ≡ b → (v : Verdict) → RightVerdict (terms_of block k) v → IsComplete (terms_of block k) v → IsVerdictBy b v
by_answer block k true e (Sat values) right complete = tt
by_answer block k false e (Sat values) right complete = answered.none block k e values right.1
by_answer block k true e (Unsat refutation) right complete =
    let some = answered.some block k e in
    let none : HasNoValues (terms_of block k) = subst HasNoValues (answered.clear block k) right in
    none some.0 some.1
by_answer block k false e (Unsat refutation) right complete = tt
by_answer block k true e (Unknown reason) right complete = complete.decided (answered.not_opaque block k) tt
by_answer block k false e (Unknown reason) right complete = complete.decided (answered.not_opaque block k) tt

pub tabled : (block : Block) (k : ℕ) (v : Verdict) → k ≤ 50 → RightVerdict (terms_of block k) v → (MustDecide (terms_of block k) → IsComplete (terms_of block k) v) → IsVerdictBy (has_values block k) v
tabled block k v h right complete = by_answer block k (has_values block k) refl v right (complete (must_decide block k h))

one_each : (b : Bool) → one_if b + one_if (not b) ≡ 1
one_each true = refl
one_each false = refl

pub all_from : (s n : ℕ) → sat_from s n + unsat_from s n ≡ n
all_from s zero = refl
all_from s (suc n) = omega (arith, one_each (is_sat_at s), all_from (behind s) n)

pub all_counted : (seed size : ℕ) → sat_count seed size + unsat_count seed size ≡ size
all_counted seed size = all_from (seeded seed) size
