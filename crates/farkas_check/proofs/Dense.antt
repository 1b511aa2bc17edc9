-- Terms that are added to the numbers of their unknowns, one by one.
use Rattle.std.proofs.Common.{◌≡◌, ◌≢◌, ℕ, zero, suc, ◌+◌, ◌<◌, ℤ, pos, ◌+ℤ◌, ◌*ℤ◌, List, [], ◌∷◌, length, take, slice_set, get_or, FitsSigned, Bool, true, false, cond, eqb, ◌⊎◌, ⊎_elim, inl, inr, refl, ap, sym, ◌∙◌, subst, arith}
use Rattle.std.specs.Int.{w128}
use Rattle.std.proofs.lemmas.Int.{ints}
use Rattle.std.proofs.lemmas.Bool.Decides.{eqb_tells}
use Rattle.std.proofs.lemmas.List.{take_more}
use Rattle.std.proofs.lemmas.Option.{slice_get-get_or}
use Rattle.sv_linear.specs.TermLaws.{above_high, term_here, coefficient-push}
use Rattle.sv_linear.specs.Terms.{coefficient, AscendsWithin}
use Rattle.sv_linear.proofs.Ascending.{ends_above}
use Rattle.farkas_check.specs.Sums.{IsColumnAdded, IsNotAddedAt, AreColumnsAdded, AreNotAdded}

set_here : (xs : List ℤ) (i : ℕ) (y : ℤ) → i < length xs → get_or (slice_set xs i y) i (pos 0) ≡ y
set_here [] i y h = absurd (omega arith)
set_here (x ∷ xs) zero y h = refl
set_here (x ∷ xs) (suc i) y h = set_here xs i y (omega arith)

set_there : (xs : List ℤ) (i j : ℕ) (y : ℤ) → j ≢ i → get_or (slice_set xs i y) j (pos 0) ≡ get_or xs j (pos 0)
set_there [] i j y n = refl
set_there (x ∷ xs) zero zero y n = absurd (n refl)
set_there (x ∷ xs) zero (suc j) y n = refl
set_there (x ∷ xs) (suc i) zero y n = refl
set_there (x ∷ xs) (suc i) (suc j) y n = set_there xs i j y (λ e. n (ap suc e))

pub set_length : (xs : List ℤ) (i : ℕ) (y : ℤ) → length (slice_set xs i y) ≡ length xs
set_length [] i y = refl
set_length (x ∷ xs) zero y = refl
set_length (x ∷ xs) (suc i) y = ap suc (set_length xs i y)

pub term_below : (low high : ℕ) (ts : List (ℕ × ℤ)) (k : ℕ) → AscendsWithin low high ts → k < length ts → (get_or ts k (0, pos 0)).0 < high
term_below low high [] k a h = absurd (omega arith)
term_below low high (t ∷ ts) zero a h = let e = ends_above (t.0 + 1) high ts a.1.1 in omega arith
term_below low high (t ∷ ts) (suc k) a h = term_below (t.0 + 1) high ts k a.1.1 (omega arith)

front_ascends : (low high : ℕ) (ts : List (ℕ × ℤ)) (k : ℕ) → AscendsWithin low high ts → k < length ts → AscendsWithin low (get_or ts k (0, pos 0)).0 (take k ts)
front_ascends low high [] k a h = absurd (omega arith)
front_ascends low high (t ∷ ts) zero a h = a.0
front_ascends low high (t ∷ ts) (suc k) a h = (a.0, (a.1.0, front_ascends (t.0 + 1) high ts k a.1.1 (omega arith)))

module _ (ns : List ℤ) (ts : List (ℕ × ℤ)) (n k : ℕ) (by : ℤ) (ms : List ℤ) (a : AscendsWithin 0 n ts) (h : k < length ts) (s : AreColumnsAdded ns (take k ts) by ms) where
  abbrev term : ℕ × ℤ
  term = get_or ts k (0, pos 0)

  not_before : coefficient term.0 (take k ts) ≡ pos 0
  not_before = above_high 0 term.0 term.0 (take k ts) (front_ascends 0 n ts k a h) (omega arith)

  whole : (u : ℕ) → coefficient u (take (k + 1) ts) ≡ coefficient u (take k ts) +ℤ cond (eqb term.0 u) term.1 (pos 0)
  whole u = ap (coefficient u) (take_more ts k (0, pos 0) h) ∙ coefficient-push u (take k ts) term

  -- the number of the term's unknown is as it was
  pub untouched : get_or ms term.0 (pos 0) ≡ get_or ns term.0 (pos 0)
  untouched = let e = (s term.0).is in let z = ap (λ w. by *ℤ w) not_before in omega (arith, ints, e, z)

  here_whole : coefficient term.0 (take (k + 1) ts) ≡ term.1
  here_whole = by_test (eqb term.0 term.0) (eqb_tells term.0 term.0) (whole term.0)
    where
      by_test : (b : Bool) → ((b ≡ true) × (term.0 ≡ term.0)) ⊎ ((b ≡ false) × (term.0 ≡ term.0 → ⊥)) → coefficient term.0 (take (k + 1) ts) ≡ coefficient term.0 (take k ts) +ℤ cond b term.1 (pos 0) → coefficient term.0 (take (k + 1) ts) ≡ term.1
      by_test true t e = omega (arith, ints, e, not_before)
      by_test false (inl t) e = absurd (cc)
      by_test false (inr t) e = absurd (t.1 refl)

  there_whole : (u : ℕ) → (term.0 ≡ u → ⊥) → coefficient u (take (k + 1) ts) ≡ coefficient u (take k ts)
  there_whole u m = by_test (eqb term.0 u) (eqb_tells term.0 u) (whole u)
    where
      by_test : (b : Bool) → ((b ≡ true) × (term.0 ≡ u)) ⊎ ((b ≡ false) × (term.0 ≡ u → ⊥)) → coefficient u (take (k + 1) ts) ≡ coefficient u (take k ts) +ℤ cond b term.1 (pos 0) → coefficient u (take (k + 1) ts) ≡ coefficient u (take k ts)
      by_test true (inl t) e = absurd (m t.1)
      by_test true (inr t) e = absurd (m (cc))
      by_test false t e = omega (arith, ints, e)

  pub added_more : (next : ℤ) → term.0 < length ms → IsColumnAdded (get_or ms term.0 (pos 0)) term.1 by next → AreColumnsAdded ns (take (k + 1) ts) by (slice_set ms term.0 next)
  added_more next low i u = ⊎_elim here there (eqb_tells term.0 u)
    where
      here : (eqb term.0 u ≡ true) × (term.0 ≡ u) → IsColumnAdded (get_or ns u (pos 0)) (coefficient u (take (k + 1) ts)) by (get_or (slice_set ms term.0 next) u (pos 0))
      here t = subst (λ v. IsColumnAdded (get_or ns v (pos 0)) (coefficient v (take (k + 1) ts)) by (get_or (slice_set ms term.0 next) v (pos 0))) t.1
          (subst (λ z. IsColumnAdded (get_or ns term.0 (pos 0)) z by (get_or (slice_set ms term.0 next) term.0 (pos 0))) (sym here_whole)
          (subst (λ z. IsColumnAdded (get_or ns term.0 (pos 0)) term.1 by z) (sym (set_here ms term.0 next low))
          (subst (λ z. IsColumnAdded z term.1 by next) untouched i)))

      there : (eqb term.0 u ≡ false) × (term.0 ≡ u → ⊥) → IsColumnAdded (get_or ns u (pos 0)) (coefficient u (take (k + 1) ts)) by (get_or (slice_set ms term.0 next) u (pos 0))
      there t = subst (λ z. IsColumnAdded (get_or ns u (pos 0)) z by (get_or (slice_set ms term.0 next) u (pos 0))) (sym (there_whole u t.1))
          (subst (λ z. IsColumnAdded (get_or ns u (pos 0)) (coefficient u (take k ts)) by z) (sym (set_there ms term.0 u next (λ e. t.1 (sym e)))) (s u))

  pub not_added : IsNotAddedAt (get_or ms term.0 (pos 0)) term.1 by → AreNotAdded ns ts by
  not_added i = (
    term.0,
    λ f g.
        let e = (term_here 0 n ts k term a (slice_get-get_or ts k (0, pos 0) h)).is in
        let w = sym untouched in
        i (subst (λ z. FitsSigned w128 (by *ℤ z)) e f)
        (subst (λ z. FitsSigned w128 (z +ℤ by *ℤ term.1)) w (subst (λ z. FitsSigned w128 (get_or ns term.0 (pos 0) +ℤ by *ℤ z)) e g)),
  )

-- what holds of each number, and of 0, holds at each place
pub all_numbers : (P : ℤ → Type 0) (ns : List ℤ) → P (pos 0) → ((k : ℕ) → k < length ns → P (get_or ns k (pos 0))) → (u : ℕ) → P (get_or ns u (pos 0))
all_numbers P [] z h u = z
all_numbers P (n ∷ ns) z h zero = h 0 (omega arith)
all_numbers P (n ∷ ns) z h (suc u) = all_numbers P ns z (λ k p. h (suc k) (omega arith)) u
