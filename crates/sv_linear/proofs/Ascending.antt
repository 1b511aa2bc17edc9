-- Ascending lists of terms.
use Rattle.std.proofs.Common.{◌≡◌, ◌≢◌, ℕ, zero, suc, ◌+◌, ◌^◌, ◌<◌, ◌≤◌, ℤ, pos, ◌+ℤ◌, List, [], ◌∷◌, ◌++◌, length, get_or, unsigned_abs, Bool, true, false, cond, eqb, refl, ap, sym, ◌∙◌, subst, arith, Result, Ok, Err, OnOk, OnErr, MatchResult, ⊎_elim}
use Rattle.std.specs.List.Sorted.{IsSearchInRange, IsBinarySearchResult}
use Rattle.std.specs.Ordering.{nat_cmp, ordering_index}
use Rattle.std.proofs.lemmas.Cmp.{ranked}
use Rattle.std.proofs.lemmas.Int.{ints}
use Rattle.std.proofs.lemmas.Bool.Decides.{nat_tests}
use Rattle.std.proofs.lemmas.Bool.{cases_lt}
use Rattle.sv_linear.specs.Terms.{terms_value, coefficient, AscendsWithin}
use Rattle.sv_linear.specs.TermLaws.{below_low, met}

pub terms_value-append : (x : ℕ → ℤ) (xs ys : List (ℕ × ℤ)) → terms_value x (xs ++ ys) ≡ terms_value x xs +ℤ terms_value x ys
terms_value-append x [] ys = omega (arith, ints)
terms_value-append x (t ∷ ts) ys = omega (arith, ints, terms_value-append x ts ys)

pub AscendsWithin-append : (low n high : ℕ) (xs ys : List (ℕ × ℤ)) → AscendsWithin low n xs → AscendsWithin n high ys → AscendsWithin low high (xs ++ ys)
AscendsWithin-append low n high [] [] p q = omega arith
AscendsWithin-append low n high [] (y ∷ ys) p q = (omega arith, q.1)
AscendsWithin-append low n high (t ∷ ts) ys p q = (p.0, (p.1.0, AscendsWithin-append (t.0 + 1) n high ts ys p.1.1 q))

pub AscendsWithin-widen : (low n high : ℕ) (xs : List (ℕ × ℤ)) → n ≤ high → AscendsWithin low n xs → AscendsWithin low high xs
AscendsWithin-widen low n high [] h p = omega arith
AscendsWithin-widen low n high (t ∷ ts) h p = (p.0, (p.1.0, AscendsWithin-widen (t.0 + 1) n high ts h p.1.1))

pub ends_above : (low high : ℕ) (xs : List (ℕ × ℤ)) → AscendsWithin low high xs → low ≤ high
ends_above low high [] p = p
ends_above low high (t ∷ ts) p = let rest = ends_above (t.0 + 1) high ts p.1.1 in let first = p.0 in omega arith

pub absent_step : (u : ℕ) (t : ℕ × ℤ) (ts : List (ℕ × ℤ)) (b : Bool) → b ≡ false → coefficient u ts ≡ pos 0 → cond b t.1 (pos 0) +ℤ coefficient u ts ≡ pos 0
absent_step u t ts true e h = absurd (cc)
absent_step u t ts false e h = omega (arith, ints)

pub coefficient-absent : (u : ℕ) (ts : List (ℕ × ℤ)) → ((k : ℕ) → k < length ts → (get_or ts k (0, pos 0)).0 ≢ u) → coefficient u ts ≡ pos 0
coefficient-absent u [] h = refl
coefficient-absent u (t ∷ ts) h =
    let apart : t.0 ≢ u = h zero (omega arith) in
    let other : eqb t.0 u ≡ false = grind (arith, nat_tests) in
    absent_step u t ts (eqb t.0 u) other (coefficient-absent u ts (λ k p. h (suc k) (omega arith)))

-- the coefficient at the unknown of a place is the one that stands there
pub coefficient-at : (low high : ℕ) (xs : List (ℕ × ℤ)) (i : ℕ) → AscendsWithin low high xs → i < length xs →
    (low ≤ (get_or xs i (0, pos 0)).0) × (coefficient (get_or xs i (0, pos 0)).0 xs ≡ (get_or xs i (0, pos 0)).1)
coefficient-at low high [] i b p = absurd (omega arith)
coefficient-at low high (t ∷ ts) zero b p =
    let same : eqb t.0 t.0 ≡ true = grind (arith, nat_tests) in
    (b.0, met t.0 t ts (eqb t.0 t.0) same (below_low (t.0 + 1) high t.0 ts b.1.1 (omega arith)))
coefficient-at low high (t ∷ ts) (suc i) b p =
    let rest = coefficient-at (t.0 + 1) high ts i b.1.1 (omega arith) in
    let first = b.0 in
    let above = rest.0 in
    let other : eqb t.0 (get_or ts i (0, pos 0)).0 ≡ false = grind (arith, nat_tests) in
    (omega arith, skip_step (get_or ts i (0, pos 0)).0 t ts (eqb t.0 (get_or ts i (0, pos 0)).0) other ∙ rest.1)
  where
    skip_step : (u : ℕ) (t : ℕ × ℤ) (ts : List (ℕ × ℤ)) (b : Bool) → b ≡ false → cond b t.1 (pos 0) +ℤ coefficient u ts ≡ coefficient u ts
    skip_step u t ts true e = absurd (cc)
    skip_step u t ts false e = omega (arith, ints)

pub keys_rise : (low high : ℕ) (ts : List (ℕ × ℤ)) (i j : ℕ) (d : ℕ × ℤ) → AscendsWithin low high ts → i ≤ j → j < length ts → (get_or ts i d).0 ≤ (get_or ts j d).0
keys_rise low high [] i j d b le p = absurd (omega arith)
keys_rise low high (t ∷ ts) zero zero d b le p = omega arith
keys_rise low high (t ∷ ts) zero (suc j) d b le p = let rest = above (t.0 + 1) high ts j d b.1.1 (omega arith) in omega arith
  where
    above : (low high : ℕ) (xs : List (ℕ × ℤ)) (i : ℕ) (d : ℕ × ℤ) → AscendsWithin low high xs → i < length xs → low ≤ (get_or xs i d).0
    above low high [] i d b p = absurd (omega arith)
    above low high (t ∷ ts) zero d b p = b.0
    above low high (t ∷ ts) (suc i) d b p = let rest = above (t.0 + 1) high ts i d b.1.1 (omega arith) in let first = b.0 in omega arith
keys_rise low high (t ∷ ts) (suc i) zero d b le p = absurd (omega arith)
keys_rise low high (t ∷ ts) (suc i) (suc j) d b le p = keys_rise (t.0 + 1) high ts i j d b.1.1 (omega arith) (omega arith)

comparison_rises : (a b u : ℕ) → a ≤ b → ordering_index (nat_cmp a u) ≤ ordering_index (nat_cmp b u)
comparison_rises a b u le = grind (arith, nat_tests)

-- a binary search by the unknown ends at its term, or finds that it has none
pub searched : (ts : List (ℕ × ℤ)) (u : ℕ) (r : Result ℕ ℕ) → AscendsWithin 0 (2 ^ 32) ts → IsSearchInRange r (length ts) → IsBinarySearchResult (λ t. nat_cmp t.0 u) ts r →
    MatchResult r (λ at. (get_or ts at (0, pos 0)).1 ≡ coefficient u ts) (λ _. pos 0 ≡ coefficient u ts)
searched ts u (Ok at) b in_range equal =
    let here : (get_or ts at (0, pos 0)).0 ≡ u = ranked _ u _ (sym (equal (0, pos 0))) in
    sym (coefficient-at 0 (2 ^ 32) ts at b in_range).1 ∙ ap (λ v. coefficient v ts) here
searched ts u (Err at) b in_range parted =
    let sides = parted (λ i j d le p. comparison_rises _ _ u (keys_rise 0 (2 ^ 32) ts i j d b le p)) in
    sym (coefficient-absent u ts (λ k p same. ⊎_elim
    (λ l. let below : (get_or ts k (0, pos 0)).0 < u = ranked _ u _ (sym (sides.0 k (0, pos 0) (omega arith) l)) in omega arith)
    (λ l. let above : u < (get_or ts k (0, pos 0)).0 = ranked _ u _ (sym (sides.1 k (0, pos 0) l p)) in omega arith)
    (cases_lt k at)))

pub pushed_ascends : {E : Type 0} (r : Result (Unit {0}) E) (old new : List (ℕ × ℤ)) (u : ℕ) (z : ℤ) → OnOk r (new ≡ old ++ (u, z) ∷ []) → OnErr r (new ≡ old) →
    AscendsWithin 0 (2 ^ 32) old → AscendsWithin 0 u old → 0 < unsigned_abs z → u < 2 ^ 32 → AscendsWithin 0 (2 ^ 32) new
pushed_ascends (Ok v) old new u z e f whole below some h = subst (AscendsWithin 0 (2 ^ 32)) (sym e) (AscendsWithin-append 0 u (2 ^ 32) old ((u, z) ∷ []) below (omega arith, (some, omega arith)))
pushed_ascends (Err v) old new u z e f whole below some h = subst (AscendsWithin 0 (2 ^ 32)) (sym f) whole
