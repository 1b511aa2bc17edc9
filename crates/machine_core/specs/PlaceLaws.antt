-- Places that grow with a list, and what stands at them.
use Rattle.std.proofs.Common.{◌≡◌, ℕ, zero, suc, ◌+◌, ◌<◌, nat_eq, cond, Bool, true, false, List, [], ◌∷◌, ◌++◌, length, slice_get, slice_set, get_or, Option, Some, None, replicate, take, refl, ap, sym, ◌∙◌, subst, arith}
use Rattle.std.specs.List.{filter, cons_option}
use Rattle.std.proofs.lemmas.Bool.Decides.{nat_tests}
use Rattle.std.proofs.lemmas.List.{take_more}
use Rattle.std.proofs.lemmas.Option.{slice_get_read, slice_get-get_or}
use Rattle.sv_list.specs.Lists.{slice_get-replicate}
use Rattle.machine_core.specs.Places.{places_from, places, pick, add_to, IsIndex}

pub add_to-set : (at place : ℕ) (rows : List (List ℕ)) (row : List ℕ) → slice_get rows at ≡ Some row → slice_set rows at (row ++ place ∷ []) ≡ add_to at place rows
add_to-set at place [] row e = cc
add_to-set zero place (r ∷ rs) row e = cc
add_to-set (suc at) place (r ∷ rs) row e = ap (λ l. r ∷ l) (add_to-set at place rs row e)

pub length-add_to : (at place : ℕ) (rows : List (List ℕ)) → length (add_to at place rows) ≡ length rows
length-add_to at place [] = refl
length-add_to zero place (r ∷ rs) = refl
length-add_to (suc at) place (r ∷ rs) = ap suc (length-add_to at place rs)

add_to-same : (at place : ℕ) (rows : List (List ℕ)) (row : List ℕ) → slice_get (add_to at place rows) at ≡ Some row → (old : List ℕ) × (slice_get rows at ≡ Some old) × (row ≡ old ++ place ∷ [])
add_to-same at place [] row e = cc
add_to-same zero place (r ∷ rs) row e = (r, refl, cc)
add_to-same (suc at) place (r ∷ rs) row e = add_to-same at place rs row e

add_to-other : (at place s : ℕ) (rows : List (List ℕ)) → nat_eq at s ≡ false → slice_get (add_to at place rows) s ≡ slice_get rows s
add_to-other at place s [] e = refl
add_to-other zero place zero (r ∷ rs) e = absurd (grind (arith, nat_tests))
add_to-other zero place (suc s) (r ∷ rs) e = refl
add_to-other (suc at) place zero (r ∷ rs) e = refl
add_to-other (suc at) place (suc s) (r ∷ rs) e = add_to-other at place s rs (grind (arith, nat_tests))

module _ {X : Type 0} (key : X → ℕ) where
  places-push : (s k : ℕ) (xs : List X) (x : X) (t : Bool) → nat_eq (key x) s ≡ t
      → places_from key s k (xs ++ x ∷ []) ≡ cond t (places_from key s k xs ++ (k + length xs) ∷ []) (places_from key s k xs)
  places-push s k [] x true e = rw e (ap (λ n. n ∷ []) (omega arith))
  places-push s k [] x false e = rw e refl
  places-push s k (y ∷ ys) x true e = by_head (nat_eq (key y) s) (places-push s (suc k) ys x true e)
    where
      by_head : (b : Bool) → places_from key s (suc k) (ys ++ x ∷ []) ≡ places_from key s (suc k) ys ++ (suc k + length ys) ∷ []
          → cond b (k ∷ places_from key s (suc k) (ys ++ x ∷ [])) (places_from key s (suc k) (ys ++ x ∷ []))
          ≡ cond b (k ∷ places_from key s (suc k) ys) (places_from key s (suc k) ys) ++ (k + suc (length ys)) ∷ []
      by_head true h = ap (λ l. k ∷ l) (h ∙ ap (λ n. places_from key s (suc k) ys ++ n ∷ []) (omega arith))
      by_head false h = h ∙ ap (λ n. places_from key s (suc k) ys ++ n ∷ []) (omega arith)
  places-push s k (y ∷ ys) x false e = ap (λ l. cond (nat_eq (key y) s) (k ∷ l) l) (places-push s (suc k) ys x false e)

  pub index-new : (n : ℕ) → IsIndex key [] (replicate n [])
  index-new n s row e = slice_get-replicate n s [] row e

  index-add-by : (xs : List X) (x : X) (rows : List (List ℕ)) → IsIndex key xs rows → (s : ℕ) (row : List ℕ) (t : Bool) → nat_eq (key x) s ≡ t
      → slice_get (add_to (key x) (length xs) rows) s ≡ Some row → row ≡ places key s (xs ++ x ∷ [])
  index-add-by xs x rows ok s row true t e =
      let same : key x ≡ s = grind (arith, nat_tests) in
      let r = add_to-same (key x) (length xs) rows row (subst (λ n. slice_get (add_to (key x) (length xs) rows) n ≡ Some row) (sym same) e) in
      let o = ok s r.0 (subst (λ n. slice_get rows n ≡ Some r.0) same r.1) in
      r.2 ∙ ap (λ l. l ++ length xs ∷ []) o ∙ sym (places-push s 0 xs x true t ∙ ap (λ n. places key s xs ++ n ∷ []) (omega arith))
  index-add-by xs x rows ok s row false t e =
      ok s row (sym (add_to-other (key x) (length xs) s rows t) ∙ e) ∙ sym (places-push s 0 xs x false t)

  pub index-add : (xs : List X) (x : X) (rows : List (List ℕ)) → IsIndex key xs rows → IsIndex key (xs ++ x ∷ []) (add_to (key x) (length xs) rows)
  index-add xs x rows ok s row e = index-add-by xs x rows ok s row (nat_eq (key x) s) refl e

  -- the places are those of a filter
  get-tail : (all : List X) (x : X) (xs : List X) (k : ℕ) → ((i : ℕ) → slice_get all (k + i) ≡ slice_get (x ∷ xs) i) → (i : ℕ) → slice_get all (suc k + i) ≡ slice_get xs i
  get-tail all x xs k h i = subst (λ n. slice_get all n ≡ slice_get xs i) (omega arith) (h (suc i))

  pick-from : (s : ℕ) (all : List X) (xs : List X) (k : ℕ) → ((i : ℕ) → slice_get all (k + i) ≡ slice_get xs i)
      → pick all (places_from key s k xs) ≡ filter (λ x. nat_eq (key x) s) xs
  pick-from s all [] k h = refl
  pick-from s all (x ∷ xs) k h = by_head (nat_eq (key x) s) (pick-from s all xs (suc k) (get-tail all x xs k h))
    where
      here : slice_get all k ≡ Some x
      here = subst (λ n. slice_get all n ≡ Some x) (omega arith) (h 0)

      by_head : (b : Bool) → pick all (places_from key s (suc k) xs) ≡ filter (λ x. nat_eq (key x) s) xs
          → pick all (cond b (k ∷ places_from key s (suc k) xs) (places_from key s (suc k) xs)) ≡ cond b (x ∷ filter (λ x. nat_eq (key x) s) xs) (filter (λ x. nat_eq (key x) s) xs)
      by_head true e = rw here (ap (λ l. x ∷ l) e)
      by_head false e = e

  pub pick-places : (s : ℕ) (xs : List X) → pick xs (places key s xs) ≡ filter (λ x. nat_eq (key x) s) xs
  pick-places s xs = pick-from s xs xs 0 (λ i. ap (slice_get xs) (omega arith))

  within-from : (s k : ℕ) (xs : List X) (i p : ℕ) → slice_get (places_from key s k xs) i ≡ Some p → p < k + length xs
  within-from s k [] i p e = cc
  within-from s k (x ∷ xs) i p e = by_head (nat_eq (key x) s) (λ j. within-from s (suc k) xs j p) i e
    where
      by_head : (b : Bool) → ((j : ℕ) → slice_get (places_from key s (suc k) xs) j ≡ Some p → p < suc k + length xs) → (i : ℕ) → slice_get (cond b (k ∷ places_from key s (suc k) xs) (places_from key s (suc k) xs)) i ≡ Some p → p < k + suc (length xs)
      by_head true h zero e = (let e2 : k ≡ p = cc in omega arith)
      by_head true h (suc i) e = (let r = h i e in omega arith)
      by_head false h i e = (let r = h i e in omega arith)

  pub places-within : (s : ℕ) (xs : List X) (i p : ℕ) → slice_get (places key s xs) i ≡ Some p → p < length xs
  places-within s xs i p e = let r = within-from s 0 xs i p e in omega arith

pub add_to-read : (rows : List (List ℕ)) (at place : ℕ) (row new : List ℕ) (n : ℕ) → n ≡ length rows → at < n → row ≡ get_or rows at row → new ≡ row ++ place ∷ []
    → slice_set rows at new ≡ add_to at place rows
add_to-read rows at place row new n len lt e f = ap (slice_set rows at) f ∙ add_to-set at place rows row (slice_get_read rows n at row len lt e)

-- one more of the picked elements
pick-end : {X : Type 0} (xs : List X) (ps : List ℕ) (p : ℕ) (x : X) → slice_get xs p ≡ Some x → pick xs (ps ++ p ∷ []) ≡ pick xs ps ++ x ∷ []
pick-end xs [] p x e = rw e refl
pick-end {X = X} xs (q ∷ ps) p x e = by_get (slice_get xs q) (pick-end xs ps p x e)
  where
    by_get : (o : Option X) → pick xs (ps ++ p ∷ []) ≡ pick xs ps ++ x ∷ [] → cons_option o (pick xs (ps ++ p ∷ [])) ≡ cons_option o (pick xs ps) ++ x ∷ []
    by_get None h = h
    by_get (Some y) h = ap (λ l. y ∷ l) h

-- the step of a loop over places, where the element is read by its place
pub pick-more : {X : Type 0} (xs : List X) (ps : List ℕ) (i : ℕ) (x : X) → ((j p : ℕ) → slice_get ps j ≡ Some p → p < length xs) → i < length ps
    → x ≡ get_or xs (get_or ps i 0) x → pick xs (take (i + 1) ps) ≡ pick xs (take i ps) ++ x ∷ []
pick-more xs ps i x within lt read =
    let p = get_or ps i 0 in
    let inside = within i p (slice_get-get_or ps i 0 lt) in
    ap (pick xs) (take_more ps i 0 lt) ∙ pick-end xs (take i ps) p x (slice_get_read xs (length xs) p x refl inside read)

-- a place that an index has
pub places-in : {X : Type 0} (key : X → ℕ) (s k : ℕ) (xs : List X) (i p : ℕ) → slice_get (places_from key s k xs) i ≡ Some p → (j : ℕ) × (x : X) × (p ≡ k + j) × (slice_get xs j ≡ Some x) × (key x ≡ s)
places-in key s k [] i p e = cc
places-in {X = X} key s k (x ∷ xs) i p e = by_head (nat_eq (key x) s) refl (λ j. places-in key s (suc k) xs j p) i e
  where
    by_head : (b : Bool) → nat_eq (key x) s ≡ b → ((j : ℕ) → slice_get (places_from key s (suc k) xs) j ≡ Some p → (l : ℕ) × (y : X) × (p ≡ suc k + l) × (slice_get xs l ≡ Some y) × (key y ≡ s))
        → (i : ℕ) → slice_get (cond b (k ∷ places_from key s (suc k) xs) (places_from key s (suc k) xs)) i ≡ Some p → (j : ℕ) × (y : X) × (p ≡ k + j) × (slice_get (x ∷ xs) j ≡ Some y) × (key y ≡ s)
    by_head true t h zero e = (zero, x, (let f : k ≡ p = cc in omega arith), refl, (grind (arith, nat_tests)))
    by_head true t h (suc i) e = let r = h i e in (suc r.0, r.1, (let f = r.2 in omega arith), r.3, r.4)
    by_head false t h i e = let r = h i e in (suc r.0, r.1, (let f = r.2 in omega arith), r.3, r.4)

-- each place with the key is there
pub places-all : {X : Type 0} (key : X → ℕ) (s k : ℕ) (xs : List X) (j n : ℕ) (x : X) → n ≡ k + j → slice_get xs j ≡ Some x → key x ≡ s → (i : ℕ) × (slice_get (places_from key s k xs) i ≡ Some n)
places-all key s k [] j n x m e f = cc
places-all {X = X} key s k (y ∷ ys) zero n x m e f = by_head (nat_eq (key y) s) (let g : y ≡ x = cc in let h : key y ≡ s = ap key g ∙ f in grind (arith, nat_tests))
  where
    by_head : (b : Bool) → b ≡ true → (i : ℕ) × (slice_get (cond b (k ∷ places_from key s (suc k) ys) (places_from key s (suc k) ys)) i ≡ Some n)
    by_head true t = (zero, ap Some (let g : k ≡ n = omega arith in g))
    by_head false t = cc
places-all {X = X} key s k (y ∷ ys) (suc j) n x m e f = by_head (nat_eq (key y) s) (places-all key s (suc k) ys j n x (omega arith) e f)
  where
    by_head : (b : Bool) → (i : ℕ) × (slice_get (places_from key s (suc k) ys) i ≡ Some n) → (i : ℕ) × (slice_get (cond b (k ∷ places_from key s (suc k) ys) (places_from key s (suc k) ys)) i ≡ Some n)
    by_head true r = (suc r.0, r.1)
    by_head false r = r
