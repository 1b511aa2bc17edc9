-- Ascending lists of states: how they begin, and how many there are.
use Rattle.std.specs.Prelude.{◌≡◌, ℕ, zero, suc, ◌+◌, ◌-◌, ◌^◌, ◌<◌, ◌≤◌, ◌⊎◌, List, [], ◌∷◌, Contains}
use Rattle.std.specs.List.Sorted.{IsStrictlyIncreasing}
use Rattle.std.specs.Ordering.{nat_cmp}
use Rattle.std.proofs.Common.{arith, refl, ap, subst, inl, inr}
use Rattle.std.proofs.lemmas.Map.Keys.{sorted_from_strictly_increasing, sorted_tail, IsStrictlyIncreasing-from_sorted}
use Rattle.std.proofs.lemmas.List.Kept.{AllPairs-from_increasing}
use Rattle.machine_core.specs.Counts.{AreAtMost, at_most-weaker, at_most-one, at_most-made, at_most-either}
use Rattle.sv_list.specs.Lists.{Contains-here, Contains-there}
use Rattle.subset_machine.specs.Subsets.{IsStateSet}

pub tail-increasing : (x : ℕ) (xs : List ℕ) → IsStrictlyIncreasing (x ∷ xs) → IsStrictlyIncreasing xs
tail-increasing x xs h = IsStrictlyIncreasing-from_sorted xs (sorted_tail nat_cmp x xs (sorted_from_strictly_increasing (x ∷ xs) h))

pub head-below : (x : ℕ) (xs : List ℕ) (t : ℕ) → IsStrictlyIncreasing (x ∷ xs) → Contains xs t → x < t
head-below x xs t h (k, lt, e) = subst (λ n. x < n) e (AllPairs-from_increasing (x ∷ xs) h 0 (suc k) t (omega arith) (omega arith))

-- some of the n numbers from k on, each once and in order
record IsSetFrom (k n : ℕ) (list : List ℕ) : Type 0 where
  ascending : IsStrictlyIncreasing list
  from : (s : ℕ) → Contains list s → k ≤ s
  below : (s : ℕ) → Contains list s → s < k + n

-- the list begins with k, and then has others of the n numbers behind it
abbrev BeginsWith : ℕ → ℕ → List ℕ → Type 0
BeginsWith k n list = (rest : List ℕ) × IsSetFrom (suc k) n rest × ((k ∷ rest) ≡ list)

without-first : (k n x : ℕ) (xs : List ℕ) → IsSetFrom k (suc n) (x ∷ xs) → IsSetFrom (suc k) n xs
without-first k n x xs h = record {
  ascending = tail-increasing x xs h.ascending;
  from = λ s i. let first = h.from x (Contains-here x xs) in let after = head-below x xs s h.ascending i in omega arith;
  below = λ s i. let b = h.below s (Contains-there x xs s i) in omega arith;
}

later : (k n x : ℕ) (xs : List ℕ) → k < x → IsSetFrom k (suc n) (x ∷ xs) → IsSetFrom (suc k) n (x ∷ xs)
later k n x xs lt h = record {
  ascending = h.ascending;
  from = λ s i. least s i;
  below = λ s i. let b = h.below s i in omega arith;
}
  where
    least : (s : ℕ) → Contains (x ∷ xs) s → suc k ≤ s
    least s (zero, l, e) = omega arith
    least s (suc j, l, e) = let b = head-below x xs s h.ascending (j, omega arith, e) in omega arith

by-first : (k n : ℕ) (list : List ℕ) → IsSetFrom k (suc n) list → IsSetFrom (suc k) n list ⊎ BeginsWith k n list
by-first k n [] h = inl (record { ascending = h.ascending; from = λ s i. none s i; below = λ s i. none s i })
  where
    none : {A : Type 0} (s : ℕ) → Contains [] s → A
    none s (j, l, e) = absurd (omega arith)
by-first k n (x ∷ xs) h = by_gap (x - k) (let least = h.from x (Contains-here x xs) in omega arith)
  where
    by_gap : (d : ℕ) → x ≡ k + d → IsSetFrom (suc k) n (x ∷ xs) ⊎ BeginsWith k n (x ∷ xs)
    by_gap zero e = let same : k ≡ x = omega arith in inr (xs, without-first k n x xs h, ap (λ y. y ∷ xs) same)
    by_gap (suc d) e = inl (later k n x xs (omega arith) h)

sets-at-most : (k n : ℕ) → AreAtMost (IsSetFrom k n) (2 ^ n)
sets-at-most k zero = at_most-weaker (λ list. [] ≡ list) (IsSetFrom k 0) 1 (2 ^ 0) empty (omega arith) (at_most-one [])
  where
    empty : (list : List ℕ) → IsSetFrom k 0 list → [] ≡ list
    empty [] h = refl
    empty (x ∷ xs) h = let a = h.from x (Contains-here x xs) in let b = h.below x (Contains-here x xs) in absurd (omega arith)
sets-at-most k (suc n) =
    let rest = sets-at-most (suc k) n in
    let double : 2 ^ n + 2 ^ n ≤ 2 ^ suc n = omega arith in
    at_most-weaker (λ list. IsSetFrom (suc k) n list ⊎ BeginsWith k n list) (IsSetFrom k (suc n)) (2 ^ n + 2 ^ n) (2 ^ suc n) (by-first k n) double
    (at_most-either (IsSetFrom (suc k) n) (BeginsWith k n) (2 ^ n) (2 ^ n) rest
    (at_most-made (λ rest. k ∷ rest) (IsSetFrom (suc k) n) (BeginsWith k n) (2 ^ n) (λ list h. h) rest))

-- a machine of n states has 2^n such lists
pub sets_at_most : (states : ℕ) → AreAtMost (IsStateSet states) (2 ^ states)
sets_at_most states = at_most-weaker (IsSetFrom 0 states) (IsStateSet states) (2 ^ states) (2 ^ states)
    (λ list h. record { ascending = h.ascending; from = λ s i. omega arith; below = λ s i. (let b = h.below s i in omega arith) }) (omega arith) (sets-at-most 0 states)
