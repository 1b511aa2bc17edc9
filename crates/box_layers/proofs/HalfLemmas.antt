-- A box with another side at one place.
use Rattle.std.proofs.Common.{◌≡◌, ℕ, zero, suc, ◌<◌, ◌≤◌, ◌⊎◌, inl, inr, max, ℤ, pos, ◌+ℤ◌, ◌-ℤ◌, ◌≤ℤ◌, ◌<ℤ◌, List, [], ◌∷◌, length, get_or, slice_get, slice_set, Option, Some, None, All, map, int_le, Bool, true, false, cond, unsigned_abs, refl, ap, sym, subst, arith}
use Rattle.std.proofs.lemmas.Int.{ints, by_lt_z}
use Rattle.std.proofs.lemmas.List.Elements.{All-head, All-tail, All-weaker, All-set}
use Rattle.sv_linear.specs.declared.row.Row.{Row}
use Rattle.sv_linear.specs.TermLaws.{weight-less}
use Rattle.search_hits.specs.Regions.{IsWithin, AreWithin, greatest_amount, amounts}
use Rattle.search_hits.specs.Boxes.{IsSide, HaveSides, FitsSides, IsBox, IsPointFound}
use Rattle.box_layers.proofs.FindLemmas.{widths}

-- a narrower side keeps what lies within
pub within-wider : (ss : List (ℤ × ℤ)) (i : ℕ) (s t : ℤ × ℤ) (xs : List ℤ) → slice_get ss i ≡ Some s → ((v : ℤ) → IsWithin t v → IsWithin s v) → AreWithin (slice_set ss i t) xs → AreWithin ss xs
within-wider [] i s t xs e f h = cc
within-wider (r ∷ ss) zero s t [] e f h = absurd h
within-wider (r ∷ ss) zero s t (x ∷ xs) e f h = let same : r ≡ s = cc in (subst (λ (q : ℤ × ℤ). IsWithin q x) (sym same) (f x h.0), h.1)
within-wider (r ∷ ss) (suc i) s t [] e f h = absurd h
within-wider (r ∷ ss) (suc i) s t (x ∷ xs) e f h = (h.0, within-wider ss i s t xs e f h.1)

-- each point lies in one half or the other
pub within-half : (ss : List (ℤ × ℤ)) (i : ℕ) (s t u : ℤ × ℤ) (xs : List ℤ) → slice_get ss i ≡ Some s → ((v : ℤ) → IsWithin s v → IsWithin t v ⊎ IsWithin u v) → AreWithin ss xs
    → AreWithin (slice_set ss i t) xs ⊎ AreWithin (slice_set ss i u) xs
within-half [] i s t u xs e f h = cc
within-half (r ∷ ss) zero s t u [] e f h = absurd h
within-half (r ∷ ss) zero s t u (x ∷ xs) e f h =
    let same : r ≡ s = cc in
    elim (f x (subst (λ (q : ℤ × ℤ). IsWithin q x) same h.0)) [ inl a ↦ inl (a, h.1) | inr b ↦ inr (b, h.1) ]
within-half (r ∷ ss) (suc i) s t u [] e f h = absurd h
within-half (r ∷ ss) (suc i) s t u (x ∷ xs) e f h = elim (within-half ss i s t u xs e f h.1) [ inl a ↦ inl (h.0, a) | inr b ↦ inr (h.0, b) ]

pub widths-set : (ss : List (ℤ × ℤ)) (i : ℕ) (s t : ℤ × ℤ) → slice_get ss i ≡ Some s → unsigned_abs (t.1 -ℤ t.0) < unsigned_abs (s.1 -ℤ s.0) → widths (slice_set ss i t) < widths ss
widths-set [] i s t e lt = cc
widths-set (r ∷ ss) zero s t e lt =
    let same : r ≡ s = cc in
    let w : unsigned_abs (r.1 -ℤ r.0) ≡ unsigned_abs (s.1 -ℤ s.0) = ap (λ (q : ℤ × ℤ). unsigned_abs (q.1 -ℤ q.0)) same in
    omega arith
widths-set (r ∷ ss) (suc i) s t e lt = let h = widths-set ss i s t e lt in omega arith

-- no amount grows
get-set-amount : (ss : List (ℤ × ℤ)) (i u : ℕ) (s t d : ℤ × ℤ) → slice_get ss i ≡ Some s → greatest_amount t ≤ greatest_amount s → greatest_amount (get_or (slice_set ss i t) u d) ≤ greatest_amount (get_or ss u d)
get-set-amount [] i u s t d e le = cc
get-set-amount (r ∷ ss) zero zero s t d e le = let same : r ≡ s = cc in subst (λ (q : ℤ × ℤ). greatest_amount t ≤ greatest_amount q) (sym same) le
get-set-amount (r ∷ ss) zero (suc u) s t d e le = omega arith
get-set-amount (r ∷ ss) (suc i) zero s t d e le = omega arith
get-set-amount (r ∷ ss) (suc i) (suc u) s t d e le = get-set-amount ss i u s t d e le

-- rows fit where no amount is greater
pub fits-less : (ss ts : List (ℤ × ℤ)) → ((u : ℕ) → amounts ss u ≤ amounts ts u) → (r : Row) → FitsSides ts r → FitsSides ss r
fits-less ss ts h r fits = let w = weight-less (amounts ss) (amounts ts) h r.form.coefficients in omega arith

pub fits-set : (ss : List (ℤ × ℤ)) (i : ℕ) (s t : ℤ × ℤ) → slice_get ss i ≡ Some s → greatest_amount t ≤ greatest_amount s → (rows : List Row) → All (FitsSides ss) rows → All (FitsSides (slice_set ss i t)) rows
fits-set ss i s t e le rows h = All-weaker (FitsSides ss) (FitsSides (slice_set ss i t)) (fits-less (slice_set ss i t) ss (λ u. get-set-amount ss i u s t (pos 0, pos 0) e le)) rows h

amount-of : (low high : ℤ) → low ≤ℤ high → greatest_amount (low, high) ≡ max (unsigned_abs low) (unsigned_abs high)
amount-of low high le = by_test (int_le low high) refl
  where
    by_test : (b : Bool) → int_le low high ≡ b → cond (int_le low high) (max (unsigned_abs low) (unsigned_abs high)) 0 ≡ max (unsigned_abs low) (unsigned_abs high)
    by_test true e = rw e refl
    by_test false e = absurd (grind (arith, ints))

-- a narrower side has no greater amount
pub amount-narrower : (low high a b : ℤ) → low ≤ℤ a → a ≤ℤ b → b ≤ℤ high → greatest_amount (a, b) ≤ greatest_amount (low, high)
amount-narrower low high a b p q r =
    let e = amount-of a b q in
    let f = amount-of low high (omega (arith, ints)) in
    let m : unsigned_abs a ≤ max (unsigned_abs low) (unsigned_abs high) = omega (arith, ints) in
    let n : unsigned_abs b ≤ max (unsigned_abs low) (unsigned_abs high) = omega (arith, ints) in
    omega arith

-- a box of one point
pub lower-within : (ss : List (ℤ × ℤ)) → All IsSide ss → AreWithin ss (map (λ (s : ℤ × ℤ). s.0) ss)
lower-within [] h = tt
lower-within (s ∷ ss) h = let le = All-head IsSide s ss h in ((omega (arith, ints), le), lower-within ss (All-tail IsSide s ss h))

length-set : (ss : List (ℤ × ℤ)) (i : ℕ) (t : ℤ × ℤ) → length (slice_set ss i t) ≡ length ss
length-set [] i t = refl
length-set (s ∷ ss) zero t = refl
length-set (s ∷ ss) (suc i) t = ap suc (length-set ss i t)

pub side-below : (ss : List (ℤ × ℤ)) (i : ℕ) (s : ℤ × ℤ) → slice_get ss i ≡ Some s → i < length ss
side-below [] i s e = cc
side-below (r ∷ ss) zero s e = omega arith
side-below (r ∷ ss) (suc i) s e = let h = side-below ss i s e in omega arith

-- a side is cut in two
module _ (rows : List Row) (sides : List (ℤ × ℤ)) (box : IsBox rows sides) (i : ℕ) (low high : ℤ) (at : slice_get sides i ≡ Some (low, high)) where
  narrower : (a b : ℤ) → low ≤ℤ a → a ≤ℤ b → b ≤ℤ high → IsBox rows (slice_set sides i (a, b))
  narrower a b p q r = record {
    some = All-set IsSide sides i (a, b) q box.some;
    unknowns = subst (λ n. HaveSides n rows) (sym (length-set sides i (a, b))) box.unknowns;
    fits = fits-set sides i (low, high) (a, b) at (amount-narrower low high a b p q r) rows box.fits;
  }

  module _ (half : ℤ) (least : low ≤ℤ half) (most : half <ℤ high) where
    pub below-box : IsBox rows (slice_set sides i (low, half))
    below-box = narrower low half (omega (arith, ints)) least (omega (arith, ints))

    pub above-box : IsBox rows (slice_set sides i (half +ℤ pos 1, high))
    above-box = narrower (half +ℤ pos 1) high (omega (arith, ints)) (omega (arith, ints)) (omega (arith, ints))

    pub below-widths : widths (slice_set sides i (low, half)) < widths sides
    below-widths = widths-set sides i (low, high) (low, half) at (omega (arith, ints))

    pub above-widths : widths (slice_set sides i (half +ℤ pos 1, high)) < widths sides
    above-widths = widths-set sides i (low, high) (half +ℤ pos 1, high) at (omega (arith, ints))

    pub below-found : (point : List ℤ) → IsPointFound rows (slice_set sides i (low, half)) (Some point) → IsPointFound rows sides (Some point)
    below-found point h = (within-wider sides i (low, high) (low, half) point at (λ v w. let a = w.0 in let b = w.1 in (a, omega (arith, ints))) h.0, h.1)

    above-found : (point : List ℤ) → IsPointFound rows (slice_set sides i (half +ℤ pos 1, high)) (Some point) → IsPointFound rows sides (Some point)
    above-found point h = (within-wider sides i (low, high) (half +ℤ pos 1, high) point at (λ v w. let a = w.0 in let b = w.1 in (omega (arith, ints), b)) h.0, h.1)

    split : (v : ℤ) → IsWithin (low, high) v → IsWithin (low, half) v ⊎ IsWithin (half +ℤ pos 1, high) v
    split v w = let a = w.0 in let b = w.1 in
        by_lt_z half v (λ lt. let c : (half +ℤ pos 1) ≤ℤ v = omega (arith, ints) in inr (c, b)) (λ le. inl (a, le))

    none-found : IsPointFound rows (slice_set sides i (low, half)) None → IsPointFound rows (slice_set sides i (half +ℤ pos 1, high)) None → IsPointFound rows sides None
    none-found f g = λ point w m. elim (within-half sides i (low, high) (low, half) (half +ℤ pos 1, high) point at split w) [ inl a ↦ f point a m | inr b ↦ g point b m ]

    -- where the lower half holds no point, what is found in the upper one is what the box holds
    pub upper-found : (found : Option (List ℤ)) → IsPointFound rows (slice_set sides i (low, half)) None → IsPointFound rows (slice_set sides i (half +ℤ pos 1, high)) found → IsPointFound rows sides found
    upper-found None none found = none-found none found
    upper-found (Some point) none found = above-found point found
