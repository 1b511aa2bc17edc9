-- What stands behind the front of a word.
use Rattle.std.proofs.Common.{◌≡◌, refl, ap, ℕ, zero, suc, ◌≤◌, ◌<◌, ◌+◌, List, [], ◌∷◌, ◌++◌, length, get_or, take, drop, arith, add-one, slice_get, Some, None}
use Rattle.std.proofs.lemmas.List.{take_all, take_more}

pub rest-more : (w : List ℕ) (i d : ℕ) → 1 ≤ i → i < length w → drop 1 (take (i + 1) w) ≡ drop 1 (take i w) ++ get_or w i d ∷ []
rest-more [] i d l h = absurd (omega arith)
rest-more (x ∷ w) zero d l h = absurd (omega arith)
rest-more (x ∷ w) (suc j) d l h = rw add-one (rw add-one at (take_more w j d (omega arith)))

pub rest-start : (w : List ℕ) → drop 1 (take 1 w) ≡ []
rest-start [] = refl
rest-start (x ∷ w) = refl

pub rest-end : (w : List ℕ) (i : ℕ) → length w ≤ i → drop 1 (take i w) ≡ drop 1 w
rest-end w i h = ap (drop 1) (take_all i w h)

pub rest-short : (w : List ℕ) → length w ≤ 1 → [] ≡ drop 1 w
rest-short [] h = refl
rest-short (x ∷ []) h = refl
rest-short (x ∷ y ∷ w) h = absurd (omega arith)

pub front-is : (w : List ℕ) (c : ℕ) → slice_get w 0 ≡ Some c → w ≡ c ∷ drop 1 w
front-is [] c e = cc
front-is (x ∷ w) c e = let f : x ≡ c = cc in ap (λ z. z ∷ w) f

pub front-other : (w t : List ℕ) (c d : ℕ) → slice_get w 0 ≡ Some d → (d ≡ c → ⊥) → w ≡ c ∷ t → ⊥
front-other [] t c d e n f = cc
front-other (x ∷ w) t c d e n f = n (cc)

pub front-none : (w t : List ℕ) (c : ℕ) → slice_get w 0 ≡ None → w ≡ c ∷ t → ⊥
front-none [] t c e f = cc
front-none (x ∷ w) t c e f = cc

pub ruleset rests = (rest-more, rest-start, rest-end, rest-short, front-is, front-other, front-none)
