-- Laws of truth values that the standard library doesn't state.
use Rattle.std.specs.Prelude.{◌≡◌, ◌↔◌, ℕ, ◌≤◌, Bool, true, false, not, ◌&&◌, ◌||◌, IsTrue, nat_le}
use Rattle.std.proofs.Common.{refl, arith}
use Rattle.std.proofs.lemmas.Bool.Decides.{nat_tests}

pub or-false : (b : Bool) → (b || false) ≡ b
or-false true = refl
or-false false = refl

pub and-true : (b : Bool) → (b && true) ≡ b
and-true true = refl
and-true false = refl

pub and-false : (b : Bool) → (b && false) ≡ false
and-false true = refl
and-false false = refl

pub or-assoc : (a b c : Bool) → ((a || b) || c) ≡ (a || (b || c))
or-assoc true b c = refl
or-assoc false b c = refl

pub or-elim : (a b : Bool) {P : Type 0} → (a || b) ≡ true → (a ≡ true → P) → (b ≡ true → P) → P
or-elim true b e f g = f refl
or-elim false b e f g = g e

pub and-first : (a b : Bool) → (a && b) ≡ true → a ≡ true
and-first true b h = refl
and-first false b h = h

pub and-second : (a b : Bool) → (a && b) ≡ true → b ≡ true
and-second true b h = h
and-second false b h = absurd cc

pub not-both : (b : Bool) → not b ≡ true → b ≡ true → ⊥
not-both true e f = absurd cc
not-both false e f = absurd cc

pub not-from_refuted : (b : Bool) → (b ≡ true → ⊥) → not b ≡ true
not-from_refuted true n = absurd (n refl)
not-from_refuted false n = refl

-- two tests of one thing answer the same
pub tests-agree : (a b : Bool) (P : Type 0) → IsTrue a ↔ P → IsTrue b ↔ P → a ≡ b
tests-agree true true P p q = refl
tests-agree true false P p q = absurd (let t = q.1 (p.0 refl) in cc)
tests-agree false true P p q = absurd (let t = p.1 (q.0 refl) in cc)
tests-agree false false P p q = refl

pub iff-trans : (A B C : Type 0) → A ↔ B → B ↔ C → A ↔ C
iff-trans A B C h e = (λ a. e.0 (h.0 a), λ c. h.1 (e.1 c))

-- a number between two others, by its tests
pub within-from_tests : (a b c : ℕ) → (nat_le a c && nat_le c b) ≡ true → (a ≤ c) × (c ≤ b)
within-from_tests a b c e = ((grind (arith, nat_tests)), grind (arith, nat_tests))

pub within-tests : (a b c : ℕ) → a ≤ c → c ≤ b → (nat_le a c && nat_le c b) ≡ true
within-tests a b c l h = grind (arith, nat_tests)
