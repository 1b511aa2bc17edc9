-- Lists of different numbers below a bound.
use Rattle.std.proofs.Common.{◌≡◌, ℕ, ◌<◌, ◌≤◌, Bool, true, false, ◌||◌, eqb, List, [], ◌∷◌, length, refl}
use Rattle.std.specs.List.{IsDistinct, AllByRecursion, list_any}
use Rattle.std.proofs.lemmas.Map.Steps.{length-le_from_distinct_below}

-- no number stands twice
abbrev pub AreDifferent : List ℕ → Type 0
AreDifferent [] = Unit {0}
AreDifferent (n ∷ ns) = (list_any (eqb n) ns ≡ false) × AreDifferent ns

none-equal : (n : ℕ) (ns : List ℕ) → list_any (eqb n) ns ≡ false → AllByRecursion (λ m. eqb n m ≡ false) ns
none-equal n [] h = tt
none-equal n (m ∷ ns) h = by_head (eqb n m) (list_any (eqb n) ns) refl refl h (none-equal n ns)
  where
    by_head : (b d : Bool) → eqb n m ≡ b → list_any (eqb n) ns ≡ d → (b || d) ≡ false → (list_any (eqb n) ns ≡ false → AllByRecursion (λ m. eqb n m ≡ false) ns)
        → (eqb n m ≡ false) × AllByRecursion (λ m. eqb n m ≡ false) ns
    by_head true d e f g rec = cc
    by_head false true e f g rec = cc
    by_head false false e f g rec = (e, rec f)

distinct : (ns : List ℕ) → AreDifferent ns → IsDistinct eqb ns
unfolding IsDistinct
distinct [] h = tt
distinct (n ∷ ns) h = (none-equal n ns h.0, distinct ns h.1)

pub different-few : (ns : List ℕ) (bound : ℕ) → AreDifferent ns → ((q : ℕ) → list_any (eqb q) ns ≡ true → q < bound) → length ns ≤ bound
different-few ns bound h below = length-le_from_distinct_below ns bound (distinct ns h) below
