-- Sorts of lists of arguments.
use Rattle.std.proofs.Common.{◌≡◌, refl, ℕ, zero, suc, ◌+◌, ◌<◌, ◌≤◌, Bool, true, false, ◌&&◌, List, [], ◌∷◌, length, map, get_or, drop, arith, add-one}
use Rattle.sv_terms.specs.declared.sort.Sort.{Sort}
use Rattle.sv_terms.specs.Sorting.{same_sort}
use Rattle.term_weight.specs.Ranks.{are_of}

module _ {A : Type 0} (f : A → Sort) where
  pub are-more : (as_ : List A) (ss : List Sort) (i : ℕ) (d : A) (e : Sort) → i < length as_ → i < length ss → are_of (map f (drop i as_)) (drop i ss) ≡ (same_sort (f (get_or as_ i d)) (get_or ss i e) && are_of (map f (drop (i + 1) as_)) (drop (i + 1) ss))
  are-more as_ ss i d e h k = rw add-one (go as_ ss i h k)
    where
      go : (as_ : List A) (ss : List Sort) (i : ℕ) → i < length as_ → i < length ss → are_of (map f (drop i as_)) (drop i ss) ≡ (same_sort (f (get_or as_ i d)) (get_or ss i e) && are_of (map f (drop (suc i) as_)) (drop (suc i) ss))
      go [] ss i h k = absurd (omega arith)
      go (a ∷ as_) [] i h k = absurd (omega arith)
      go (a ∷ as_) (s ∷ ss) zero h k = refl
      go (a ∷ as_) (s ∷ ss) (suc i) h k = go as_ ss i (omega arith) (omega arith)

  pub are-none : (as_ : List A) (ss : List Sort) (i : ℕ) → length as_ ≡ length ss → length ss ≤ i → are_of (map f (drop i as_)) (drop i ss) ≡ true
  are-none [] [] zero e h = refl
  are-none [] [] (suc i) e h = refl
  are-none [] (s ∷ ss) i e h = absurd (omega arith)
  are-none (a ∷ as_) [] i e h = absurd (omega arith)
  are-none (a ∷ as_) (s ∷ ss) zero e h = absurd (omega arith)
  are-none (a ∷ as_) (s ∷ ss) (suc i) e h = are-none as_ ss i (omega arith) (omega arith)

  pub are-apart : (as_ : List A) (ss : List Sort) → (length as_ ≡ length ss → ⊥) → are_of (map f as_) ss ≡ false
  are-apart [] [] h = absurd (h refl)
  are-apart [] (s ∷ ss) h = refl
  are-apart (a ∷ as_) [] h = refl
  are-apart (a ∷ as_) (s ∷ ss) h = both (same_sort (f a) s) (are-apart as_ ss (λ e. h (omega arith)))
    where
      both : {c : Bool} (b : Bool) → c ≡ false → (b && c) ≡ false
      both true e = e
      both false e = refl

pub ruleset sorts = (are-more, are-none, are-apart)
