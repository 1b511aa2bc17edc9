-- A character is sought among pairs that are apart.
use Rattle.std.proofs.Common.{◌≡◌, ℕ, zero, suc, ◌+◌, ◌<◌, ◌≤◌, ◌||◌, ◌&&◌, true, false, nat_le, List, [], ◌∷◌, length, get_or, refl, ◌∙◌, subst, arith}
use Rattle.std.proofs.lemmas.Bool.Decides.{nat_tests}
use Rattle.std.proofs.lemmas.List.Sorted.{IsPartitionedBy-ltb}
use Rattle.std.specs.List.Sorted.{IsNonDecreasingBy, IsPartitionedBy, IsPartitionPoint}
use Rattle.std.specs.Prelude.{Some, None, slice_get, nat_lt}
use Rattle.sv_word.proofs.Apart.{below_apart, first-past}
use Rattle.sv_word.specs.Ranges.{in_ranges, IsApartFrom}

-- the pairs before `at` end before `c`, and those from `at` on don't
pub record IsSoughtAt (ps : List (ℕ × ℕ)) (c at : ℕ) : Type 0 where
  pub before : (k : ℕ) → k < at → k < length ps → (get_or ps k (0, 0)).1 < c
  pub after : (k : ℕ) → at ≤ k → k < length ps → c ≤ (get_or ps k (0, 0)).1

-- the ends of the pairs rise
ends-from : (low : ℕ) (ps : List (ℕ × ℕ)) → IsApartFrom low ps → (j : ℕ) (d : ℕ × ℕ) → j < length ps → low ≤ (get_or ps j d).1
ends-from low [] h j d lt = absurd (omega arith)
ends-from low (p ∷ ps) h zero d lt = (let a = h.0 in let b = h.1 in omega arith)
ends-from low (p ∷ ps) h (suc j) d lt = let rest = ends-from (p.1 + 2) ps h.3 j d (omega arith) in let a = h.0 in let b = h.1 in omega arith

ends-rise : (low : ℕ) (ps : List (ℕ × ℕ)) → IsApartFrom low ps → IsNonDecreasingBy (λ p. p.1) ps
ends-rise low [] h i j d le lt = absurd (omega arith)
ends-rise low (p ∷ ps) h zero zero d le lt = omega arith
ends-rise low (p ∷ ps) h zero (suc j) d le lt = let rest = ends-from (p.1 + 2) ps h.3 j d (omega arith) in omega arith
ends-rise low (p ∷ ps) h (suc i) zero d le lt = absurd (omega arith)
ends-rise low (p ∷ ps) h (suc i) (suc j) d le lt = ends-rise (p.1 + 2) ps h.3 i j d (omega arith) (omega arith)

pub parted : (low : ℕ) (ps : List (ℕ × ℕ)) (c : ℕ) → IsApartFrom low ps → IsPartitionedBy (λ p. nat_lt p.1 c) ps
parted low ps c h = IsPartitionedBy-ltb (λ p. p.1) ps c (ends-rise low ps h)

pub sought-at : (ps : List (ℕ × ℕ)) (c at : ℕ) → IsPartitionPoint (λ p. nat_lt p.1 c ≡ true) (λ p. nat_lt p.1 c ≡ false) ps at → IsSoughtAt ps c at
sought-at ps c at h = record {
  before = λ k l m. let t = h.0 k (0, 0) (omega arith) l in grind (arith, nat_tests);
  after = λ k l m. let t = h.1 k (0, 0) l m in grind (arith, nat_tests);
}

past : (p : ℕ × ℕ) (ps : List (ℕ × ℕ)) (c at : ℕ) → IsSoughtAt (p ∷ ps) c (suc at) → IsSoughtAt ps c at
past p ps c at s = record { before = λ k l m. s.before (suc k) (omega arith) (omega arith); after = λ k l m. s.after (suc k) (omega arith) (omega arith) }

pub sought-none : (low : ℕ) (ps : List (ℕ × ℕ)) (c at : ℕ) → IsApartFrom low ps → IsSoughtAt ps c at → slice_get ps at ≡ None → in_ranges ps c ≡ false
sought-none low [] c at h s e = refl
sought-none low (p ∷ ps) c zero h s e = absurd (cc)
sought-none low (p ∷ ps) c (suc at) h s e = first-past p ps c (s.before 0 (omega arith) (omega arith)) ∙ sought-none (p.1 + 2) ps c at h.3 (past p ps c at s) e

pub sought-some : (low : ℕ) (ps : List (ℕ × ℕ)) (c at : ℕ) (q : ℕ × ℕ) → IsApartFrom low ps → IsSoughtAt ps c at → slice_get ps at ≡ Some q → in_ranges ps c ≡ nat_le q.0 c
sought-some low [] c at q h s e = absurd (cc)
sought-some low (p ∷ ps) c zero q h s e =
    let ends : c ≤ p.1 = s.after 0 (omega arith) (omega arith) in
    let rest : in_ranges ps c ≡ false = below_apart (p.1 + 2) ps c h.3 (omega arith) in
    let same : p ≡ q = cc in
    subst (λ x. in_ranges (p ∷ ps) c ≡ nat_le x.0 c) same (rw rest (only p.0 p.1 c ends))
  where
    only : (a b c : ℕ) → c ≤ b → ((nat_le a c && nat_le c b) || false) ≡ nat_le a c
    only a b c h = grind (arith, nat_tests)
sought-some low (p ∷ ps) c (suc at) q h s e = first-past p ps c (s.before 0 (omega arith) (omega arith)) ∙ sought-some (p.1 + 2) ps c at q h.3 (past p ps c at s) e
