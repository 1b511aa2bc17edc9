-- Rows: looking up, putting in.
use Rattle.std.proofs.Common.{◌≡◌, refl, sym, ap, ◌∙◌, subst, ℕ, zero, suc, ◌+◌, ◌≤◌, ◌<◌, ◌⊎◌, inl, inr, ⊎_elim, arith, rules, Bool, true, false, nat_eq, if◌then◌else◌, List, [], ◌∷◌, ◌++◌, length, slice_get, Some, drop, get_or}
use Rattle.std.specs.Prelude.{nat_lt}
use Rattle.std.proofs.lemmas.Bool.{eqb-true, eq-eqb}
use Rattle.std.proofs.lemmas.List.{drop_more}
use Rattle.sv_word.specs.Words.{IsWord, greatest_character}
use Rattle.replace_machines.specs.Borders.{IsNext, IsFailure}
use Rattle.replace_machines.specs.Rows.{at, target, put, Ascends, IsMatchRow, AreMatchRows, IsBorderOf}
use Rattle.replace_machines.proofs.BorderLemmas.{next-match, next-back, failure-more}

pub same_or_not : (a b : ℕ) → ((a ≡ b) × (nat_eq a b ≡ true)) ⊎ ((a ≡ b → ⊥) × (nat_eq a b ≡ false))
same_or_not a b = by (nat_eq a b) refl
  where
    by : (t : Bool) → nat_eq a b ≡ t → ((a ≡ b) × (nat_eq a b ≡ true)) ⊎ ((a ≡ b → ⊥) × (nat_eq a b ≡ false))
    by true e = inl (eqb-true a b e, e)
    by false e = inr ((λ s. let t = eq-eqb a b s in cc), e)

pub less_or_not : (a b : ℕ) → ((a < b) × (nat_lt a b ≡ true)) ⊎ ((b ≤ a) × (nat_lt a b ≡ false))
less_or_not a b = by (nat_lt a b) refl
  where
    by : (t : Bool) → nat_lt a b ≡ t → ((a < b) × (nat_lt a b ≡ true)) ⊎ ((b ≤ a) × (nat_lt a b ≡ false))
    by true e = inl (search (rules, e), e)
    by false e = inr (search (rules, e), e)

pub target-here : (p : ℕ × ℕ) (row : List (ℕ × ℕ)) (c : ℕ) → p.0 ≡ c → target (p ∷ row) c ≡ p.1
target-here p row c e = ap (λ b. if b then p.1 else target row c) (eq-eqb p.0 c e)

pub target-later : (p : ℕ × ℕ) (row : List (ℕ × ℕ)) (c : ℕ) → (p.0 ≡ c → ⊥) → target (p ∷ row) c ≡ target row c
target-later p row c n = ⊎_elim (λ k. absurd (n k.0)) (λ k. ap (λ b. if b then p.1 else target row c) k.1) (same_or_not p.0 c)

pub target-below : (row : List (ℕ × ℕ)) (low c : ℕ) → Ascends low row → c < low → target row c ≡ 0
target-below [] low c h l = refl
target-below (p ∷ row) low c h l =
    target-later p row c (λ e. let x = h.0 in absurd (omega (arith, e, x, l)))
    ∙ target-below row (suc p.0) c h.2 (let x = h.0 in omega (arith, x, l))

put-less : (c to : ℕ) (p : ℕ × ℕ) (row : List (ℕ × ℕ)) → nat_lt p.0 c ≡ true → put c to (p ∷ row) ≡ p ∷ put c to row
put-less c to p row e = ap (λ b. if b then (p ∷ put c to row) else (if nat_eq p.0 c then (c, to) ∷ row else ((c, to) ∷ (p ∷ row)))) e

put-same : (c to : ℕ) (p : ℕ × ℕ) (row : List (ℕ × ℕ)) → nat_lt p.0 c ≡ false → nat_eq p.0 c ≡ true → put c to (p ∷ row) ≡ (c, to) ∷ row
put-same c to p row e f =
    ap (λ b. if b then (p ∷ put c to row) else (if nat_eq p.0 c then (c, to) ∷ row else ((c, to) ∷ (p ∷ row)))) e
    ∙ ap (λ b. if b then (c, to) ∷ row else ((c, to) ∷ (p ∷ row))) f

put-more : (c to : ℕ) (p : ℕ × ℕ) (row : List (ℕ × ℕ)) → nat_lt p.0 c ≡ false → nat_eq p.0 c ≡ false → put c to (p ∷ row) ≡ (c, to) ∷ (p ∷ row)
put-more c to p row e f =
    ap (λ b. if b then (p ∷ put c to row) else (if nat_eq p.0 c then (c, to) ∷ row else ((c, to) ∷ (p ∷ row)))) e
    ∙ ap (λ b. if b then (c, to) ∷ row else ((c, to) ∷ (p ∷ row))) f

-- the three ways in which a character is put in
pub data Put (c to : ℕ) (p : ℕ × ℕ) (row : List (ℕ × ℕ)) : Type 0 where
  behind : p.0 < c → put c to (p ∷ row) ≡ p ∷ put c to row → Put c to p row
  instead : p.0 ≡ c → put c to (p ∷ row) ≡ (c, to) ∷ row → Put c to p row
  before : c < p.0 → put c to (p ∷ row) ≡ (c, to) ∷ (p ∷ row) → Put c to p row

pub put_cases : (c to : ℕ) (p : ℕ × ℕ) (row : List (ℕ × ℕ)) → Put c to p row
put_cases c to p row = ⊎_elim
    (λ l. behind l.0 (put-less c to p row l.1))
    (λ m. ⊎_elim
    (λ e. instead e.0 (put-same c to p row m.1 e.1))
    (λ n. before (let x = m.0 in let y = n.0 in above x y) (put-more c to p row m.1 n.1))
    (same_or_not p.0 c))
    (less_or_not p.0 c)
  where
    above : c ≤ p.0 → (p.0 ≡ c → ⊥) → c < p.0
    above x y = ⊎_elim (λ l. l.0) (λ m. absurd (y (let z = m.0 in omega (arith, x, z)))) (less_or_not c p.0)

-- it is found, and the others as before
pub target-put-here : (row : List (ℕ × ℕ)) (c to d : ℕ) → c ≡ d → target (put c to row) d ≡ to
target-put-here [] c to d e = target-here (c, to) [] d e
target-put-here (p ∷ row) c to d e = by (put_cases c to p row) (target-put-here row c to d e)
  where
    by : Put c to p row → target (put c to row) d ≡ to → target (put c to (p ∷ row)) d ≡ to
    by (behind l s) rest = ap (λ r. target r d) s ∙ target-later p (put c to row) d (λ f. absurd (omega (arith, l, e, f))) ∙ rest
    by (instead l s) rest = ap (λ r. target r d) s ∙ target-here (c, to) row d e
    by (before l s) rest = ap (λ r. target r d) s ∙ target-here (c, to) (p ∷ row) d e

pub target-put-other : (row : List (ℕ × ℕ)) (c to d : ℕ) → (c ≡ d → ⊥) → target (put c to row) d ≡ target row d
target-put-other [] c to d n = target-later (c, to) [] d n
target-put-other (p ∷ row) c to d n = by (put_cases c to p row) (target-put-other row c to d n)
  where
    by : Put c to p row → target (put c to row) d ≡ target row d → target (put c to (p ∷ row)) d ≡ target (p ∷ row) d
    by (behind l s) rest = ap (λ r. target r d) s ∙ ap (λ t. if nat_eq p.0 d then p.1 else t) rest
    by (instead l s) rest = ap (λ r. target r d) s ∙ target-later (c, to) row d n ∙ sym (target-later p row d (λ f. n (sym l ∙ f)))
    by (before l s) rest = ap (λ r. target r d) s ∙ target-later (c, to) (p ∷ row) d n

pub ascends-put : (row : List (ℕ × ℕ)) (low c to : ℕ) → Ascends low row → low ≤ c → c ≤ greatest_character → Ascends low (put c to row)
ascends-put [] low c to h l t = (l, t, tt)
ascends-put (p ∷ row) low c to h l t = by (put_cases c to p row) (λ l. ascends-put row (suc p.0) c to h.2 l t)
  where
    by : Put c to p row → (suc p.0 ≤ c → Ascends (suc p.0) (put c to row)) → Ascends low (put c to (p ∷ row))
    by (behind g s) rest = subst (Ascends low) (sym s) (h.0, h.1, rest (omega (arith, g)))
    by (instead g s) rest = subst (Ascends low) (sym s) (l, t, subst (λ n. Ascends (suc n) row) g h.2)
    by (before g s) rest = subst (Ascends low) (sym s) (l, t, ((let x = g in omega (arith, x)), h.1, h.2))

pub row-back : (pattern : List ℕ) (q m : ℕ) (row new : List (ℕ × ℕ)) → IsFailure (at pattern) q m → IsMatchRow pattern m row → at pattern q ≤ greatest_character → new ≡ put (at pattern q) (suc q) row → IsMatchRow pattern q new
row-back pattern q m row new f r top e = record {
  ascends = subst (Ascends 0) (sym e) (ascends-put row 0 (at pattern q) (suc q) r.ascends (omega arith) top);
  next = λ c. ⊎_elim
      (λ k. subst (IsNext (at pattern) q c) (sym (ap (λ r. target r c) e ∙ target-put-here row (at pattern q) (suc q) c k.0)) (next-match (at pattern) q c k.0))
      (λ k. subst (IsNext (at pattern) q c) (sym (ap (λ r. target r c) e ∙ target-put-other row (at pattern q) (suc q) c k.0)) (next-back (at pattern) q m c (target row c) f k.0 (r.next c)))
      (same_or_not (at pattern q) c);
}

-- what is left of a row
pub target_at_here : (row : List (ℕ × ℕ)) (i c : ℕ) (d : ℕ × ℕ) → i < length row → (get_or row i d).0 ≡ c → target (drop i row) c ≡ (get_or row i d).1
target_at_here row i c d h e = ap (λ r. target r c) (drop_more row i d h) ∙ target-here (get_or row i d) (drop (i + 1) row) c e

pub target_at_later : (row : List (ℕ × ℕ)) (i c : ℕ) (d : ℕ × ℕ) → i < length row → ((get_or row i d).0 ≡ c → ⊥) → target (drop i row) c ≡ target (drop (i + 1) row) c
target_at_later row i c d h n = ap (λ r. target r c) (drop_more row i d h) ∙ target-later (get_or row i d) (drop (i + 1) row) c n

-- a row more
slice_get_pushed : (xs : List (List (ℕ × ℕ))) (y r : List (ℕ × ℕ)) (q : ℕ) → slice_get (xs ++ y ∷ []) q ≡ Some r → (slice_get xs q ≡ Some r) ⊎ ((q ≡ length xs) × (y ≡ r))
slice_get_pushed [] y r zero e = inr (refl, cc)
slice_get_pushed [] y r (suc q) e = absurd (cc)
slice_get_pushed (x ∷ xs) y r zero e = inl e
slice_get_pushed (x ∷ xs) y r (suc q) e = ⊎_elim inl (λ k. inr (ap suc k.0, k.1)) (slice_get_pushed xs y r q e)

pub rows_more : (pattern : List ℕ) (rows new : List (List (ℕ × ℕ))) (r : List (ℕ × ℕ)) → AreMatchRows pattern rows → IsMatchRow pattern (length rows) r → new ≡ rows ++ r ∷ [] → AreMatchRows pattern new
rows_more pattern rows new r h is e = subst (AreMatchRows pattern) (sym e) (record {
  row = λ q s g. ⊎_elim (λ a. h.row q s a) (λ k. subst (IsMatchRow pattern q) k.1 (subst (λ n. IsMatchRow pattern n r) (sym k.0) is)) (slice_get_pushed rows r s q g);
})

pub word_at : (w : List ℕ) (i : ℕ) → IsWord w → at w i ≤ greatest_character
word_at [] i h = subst (λ n. n ≤ greatest_character) (sym (none i)) (omega arith)
  where
    none : (i : ℕ) → at [] i ≡ 0
    none zero = refl
    none (suc i) = refl
word_at (c ∷ w) zero h = h.0
word_at (c ∷ w) (suc i) h = word_at w i h.1

failure_of : (pattern : List ℕ) (q m : ℕ) → (q ≡ 0 → ⊥) → IsBorderOf pattern q m → IsFailure (at pattern) q m
failure_of pattern q m n b = ⊎_elim (λ k. absurd (n k.0)) (λ f. f) b

pub row_added : (pattern : List ℕ) (rows new : List (List (ℕ × ℕ))) (back row : List (ℕ × ℕ)) (m c to : ℕ) → (length rows ≡ 0 → ⊥) → IsWord pattern → c ≡ at pattern (length rows)
    → IsBorderOf pattern (length rows) m → slice_get rows m ≡ Some back → to ≡ suc (length rows) → row ≡ put c to back → AreMatchRows pattern rows → new ≡ rows ++ row ∷ [] → AreMatchRows pattern new
row_added pattern rows new back row m c to n h e b g t r are is =
    let q = length rows in
    let made = row-back pattern q m back row (failure_of pattern q m n b) (are.row m back g) (word_at pattern q h) (r ∙ ap (λ d. put d to back) e ∙ ap (λ k. put (at pattern q) k back) t) in
    rows_more pattern rows new row are made is

pub border_added : (pattern : List ℕ) (rows : List (List (ℕ × ℕ))) (back : List (ℕ × ℕ)) (m c next : ℕ) → (length rows ≡ 0 → ⊥) → c ≡ at pattern (length rows)
    → IsBorderOf pattern (length rows) m → slice_get rows m ≡ Some back → AreMatchRows pattern rows → next ≡ target back c → IsBorderOf pattern (suc (length rows)) next
border_added pattern rows back m c next n e b g are t =
    let q = length rows in
    let k = (are.row m back g).next (at pattern q) in
    inr (subst (IsFailure (at pattern) (suc q)) (sym (t ∙ ap (target back) e)) (failure-more (at pattern) q m (target back (at pattern q)) (failure_of pattern q m n b) k))
