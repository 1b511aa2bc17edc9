-- The functions on parts and places are what they are in words.
use Rattle.std.specs.Prelude.{◌≡◌, ◌↔◌, ℕ, zero, suc, ℤ, pos, negsuc, ◌+◌, ◌≤◌, ◌<◌, ◌≤ℤ◌, ◌<ℤ◌, true, false, if◌then◌else◌, [], ◌∷◌, ◌++◌, length, take, drop, nat_le, Some, None, Bool, ◌-◌}
use Rattle.std.specs.Option.{option_map}
use Rattle.std.proofs.Common.{rules, refl, sym, ap, ◌∙◌, subst, arith, ⊎_elim, le-leb}
use Rattle.std.proofs.lemmas.Int.{ints}
use Rattle.std.proofs.lemmas.Bool.{cases_lt}
use Rattle.std.proofs.lemmas.List.{append-nil, append_assoc, length-append, length-take, length-drop, take-append-drop, take_all, take_at, drop_at, drop_all, drop-drop, length-take-le}
use Rattle.sv_word.specs.Words.{IsWord}
use Rattle.sv_terms.specs.Language.{Word}
use Rattle.sv_terms.specs.Replacement.{begins, occurs, IsFirst, Stands, StandsFirst, StandsNowhere}
use Rattle.sv_terms.specs.ReplacementLaws.{begins-of, begins-not, first_or_nowhere}
use Rattle.segment_machines.specs.Substrings.{len, substr, first_place, place_or_none, index_of, Substring, inside, outside, Index, least, missing}

-- a part of a word, and what is before and after it
pub substr-part : (a v b : Word) (k : ℕ) → length v ≡ k → substr (a ++ (v ++ b)) (len a) (pos k) ≡ v
substr-part a v b k e = ap (take k) (drop_at a (v ++ b) (length a) refl) ∙ take_at v b k e

pub substr-rest : (a v : Word) (k : ℕ) → length v ≤ k → substr (a ++ v) (len a) (pos k) ≡ v
substr-rest a v k h = ap (take k) (drop_at a v (length a) refl) ∙ take_all k v h

pub substr-high : (w : Word) (i k : ℕ) → length w ≤ i → substr w (pos i) (pos k) ≡ []
substr-high w i k h = ap (take k) (drop_all i w h) ∙ take_all k [] (omega arith)

word-take : (n : ℕ) (w : Word) → IsWord w → IsWord (take n w)
word-take zero w h = tt
word-take (suc n) [] h = tt
word-take (suc n) (c ∷ w) h = (h.0, word-take n w h.1)

word-drop : (n : ℕ) (w : Word) → IsWord w → IsWord (drop n w)
word-drop zero w h = h
word-drop (suc n) [] h = tt
word-drop (suc n) (c ∷ w) h = word-drop n w h.1

-- a part of a word is a word
pub substr-word : (w : Word) (m n : ℤ) → IsWord w → IsWord (substr w m n)
substr-word w (negsuc i) n h = tt
substr-word w (pos i) (negsuc k) h = tt
substr-word w (pos i) (pos k) h = word-take k (drop i w) (word-drop i w h)

-- nothing is there outside
pub substr-outside : (w : Word) (m n : ℤ) → (pos 0 ≤ℤ m → m <ℤ len w → pos 0 <ℤ n → ⊥) → substr w m n ≡ []
substr-outside w (negsuc i) n h = refl
substr-outside w (pos i) (negsuc k) h = refl
substr-outside w (pos i) (pos zero) h = refl
substr-outside w (pos i) (pos (suc k)) h = ⊎_elim
    (λ l. absurd (h (omega (arith, ints)) (omega (arith, ints, l)) (omega (arith, ints))))
    (λ l. substr-high w i (suc k) l)
    (cases_lt i (length w))

pub substr-is : (w : Word) (m n : ℤ) (v : Word) → (v ≡ substr w m n) ↔ Substring w m n v
substr-is w m n v = (there m n, back)
  where
    there : (m n : ℤ) → v ≡ substr w m n → Substring w m n v
    there (negsuc i) n e = outside (λ x y z. omega (arith, ints, x)) e
    there (pos i) (negsuc k) e = outside (λ x y z. omega (arith, ints, z)) e
    there (pos i) (pos zero) e = outside (λ x y z. omega (arith, ints, z)) e
    there (pos i) (pos (suc k)) e = ⊎_elim
        (λ l.
        let one = length-take-le i w (omega (arith, l)) in
        let size = length-take (suc k) (drop i w) in
        let left = length-drop i w in
        let same = ap length e in
        inside (take i w) (drop (suc k) (drop i w)) (suc k)
        (sym (take-append-drop i w) ∙ ap (λ (x : Word). take i w ++ x) (sym (take-append-drop (suc k) (drop i w)) ∙ ap (λ (x : Word). x ++ drop (suc k) (drop i w)) (sym e)))
        (ap pos (sym one)) refl (omega (arith, one, l)) (omega arith) (omega (arith, one, size, left, same)))
        (λ l. outside (λ x y z. omega (arith, ints, y, l)) (e ∙ substr-high w i (suc k) l))
        (cases_lt i (length w))

    back : Substring w m n v → v ≡ substr w m n
    back (inside a b k e f g lt z s) =
        let total = ap length e ∙ length-append a (v ++ b) in
        let more = length-append v b in
        let at : substr w m n ≡ substr (a ++ (v ++ b)) (len a) (pos k) = ap (λ (x : Word). substr x m n) e ∙ ap (λ x. substr (a ++ (v ++ b)) x n) f ∙ ap (substr (a ++ (v ++ b)) (len a)) g in
        ⊎_elim
        (λ l.
        let nothing : length b ≡ 0 = omega (arith, total, more, s, l) in
        let short : length v ≤ k = omega (arith, l) in
        sym (at ∙ ap (λ (x : Word). substr (a ++ x) (len a) (pos k)) (ap (λ (x : Word). v ++ x) (empty b nothing) ∙ append-nil v) ∙ substr-rest a v k short))
        (λ l. sym (at ∙ substr-part a v b k (omega (arith, total, more, s, l))))
        (cases_lt (length v) k)
      where
        empty : (x : Word) → length x ≡ 0 → x ≡ []
        empty [] h = refl
        empty (c ∷ x) h = absurd (omega (arith, h))
    back (outside h e) = e ∙ sym (substr-outside w m n h)

-- the least place is that of the first occurrence
pub first_place-here : (p w : Word) → begins p w ≡ true → first_place p w ≡ Some 0
first_place-here p [] e = ap (λ b. if b then Some 0 else None) e
first_place-here p (c ∷ w) e = ap (λ b. if b then Some 0 else option_map suc (first_place p w)) e

pub first_place-skips : (p : Word) (c : ℕ) (w : Word) → begins p (c ∷ w) ≡ false → first_place p (c ∷ w) ≡ option_map suc (first_place p w)
first_place-skips p c w e = ap (λ b. if b then Some 0 else option_map suc (first_place p w)) e

tail_same : (x y : ℕ) (v w : Word) → x ∷ v ≡ y ∷ w → (x ≡ y) × (v ≡ w)
tail_same x y v w e = (cc, cc)

pub first_place-some : (p w a b : Word) → StandsFirst p w a b → first_place p w ≡ Some (length a)
first_place-some p w [] b f = first_place-here p w (ap (begins p) f.stands ∙ begins-of p b)
first_place-some p [] (x ∷ a) b f = absurd (let e = f.stands in cc)
first_place-some p (c ∷ w) (x ∷ a) b f =
    let e = tail_same c x w (a ++ (p ++ b)) f.stands in
    let later : StandsFirst p w a b = record { stands = e.1; least = λ u v s. let k = f.least (c ∷ u) v (ap (λ (y : Word). c ∷ y) s) in omega (arith, k) } in
    let unlike : begins p (c ∷ w) ≡ false = begins-not p (c ∷ w) (λ d g. let k = f.least [] d g in omega (arith, k)) in
    first_place-skips p c w unlike ∙ ap (option_map suc) (first_place-some p w a b later)

pub first_place-none : (p w : Word) → StandsNowhere p w → first_place p w ≡ None
first_place-none p [] n = ap (λ b. if b then Some 0 else None) (begins-not p [] (λ b e. n [] b e))
first_place-none p (c ∷ w) n =
    first_place-skips p c w (begins-not p (c ∷ w) (λ b e. n [] b e))
    ∙ ap (option_map suc) (first_place-none p w (λ a b s. n (c ∷ a) b (ap (λ (v : Word). c ∷ v) s)))

-- a place from i on, where i is one
pub index_of-within : (w p : Word) (i : ℕ) → i ≤ length w → index_of w p (pos i) ≡ place_or_none i (first_place p (drop i w))
index_of-within w p i h = ap (λ b. if b then place_or_none i (first_place p (drop i w)) else negsuc 0) (le-leb i (length w) h)

pub index_of-high : (w p : Word) (i : ℕ) → length w < i → index_of w p (pos i) ≡ negsuc 0
index_of-high w p i h = ap (λ b. if b then place_or_none i (first_place p (drop i w)) else negsuc 0) (not-within i (length w) h)
  where
    not-within : (a b : ℕ) → b < a → nat_le a b ≡ false
    not-within a b h = search (rules, h)

pub index_of-found : (a b p d c : Word) → StandsFirst p b d c → index_of (a ++ b) p (len a) ≡ pos (length a + length d)
index_of-found a b p d c f =
    let k = length-append a b in
    index_of-within (a ++ b) p (length a) (omega (arith, k))
    ∙ ap (λ (x : Word). place_or_none (length a) (first_place p x)) (drop_at a b (length a) refl)
    ∙ ap (place_or_none (length a)) (first_place-some p b d c f)

pub index_of-absent : (a b p : Word) → StandsNowhere p b → index_of (a ++ b) p (len a) ≡ negsuc 0
index_of-absent a b p n =
    let k = length-append a b in
    index_of-within (a ++ b) p (length a) (omega (arith, k))
    ∙ ap (λ (x : Word). place_or_none (length a) (first_place p x)) (drop_at a b (length a) refl)
    ∙ ap (place_or_none (length a)) (first_place-none p b n)

-- as a search by places tells it: a first place, and no place
first_place-at : (p v : Word) (d : ℕ) → d ≤ length v → begins p (drop d v) ≡ true → ((i : ℕ) → i < d → begins p (drop i v) ≡ false) → first_place p v ≡ Some d
first_place-at p v zero h e n = first_place-here p v e
first_place-at p [] (suc d) h e n = absurd (omega (arith, h))
first_place-at p (c ∷ v) (suc d) h e n =
    first_place-skips p c v (n 0 (omega arith)) ∙ ap (option_map suc) (first_place-at p v d (omega (arith, h)) e (λ i l. n (suc i) (omega (arith, l))))

first_place-never : (p v : Word) → occurs p v ≡ false → first_place p v ≡ None
first_place-never p [] e = ap (λ b. if b then Some 0 else None) e
first_place-never p (c ∷ v) e = by (begins p (c ∷ v)) refl (first_place-never p v)
  where
    by : (b : Bool) → begins p (c ∷ v) ≡ b → (occurs p v ≡ false → first_place p v ≡ None) → first_place p (c ∷ v) ≡ None
    by true g rest = absurd (let k : occurs p (c ∷ v) ≡ true = ap (λ b. if b then true else occurs p v) g in let m : true ≡ false = sym k ∙ e in cc)
    by false g rest = first_place-skips p c v g ∙ ap (option_map suc) (rest (sym (ap (λ b. if b then true else occurs p v) g) ∙ e))

pub index_of-first : (w p : Word) (i k : ℕ) → IsFirst w p i k → index_of w p (pos i) ≡ pos k
index_of-first w p i k f =
    let after = f.after in
    let within = f.within in
    let size = length-drop i w in
    let sum : i + (k - i) ≡ k = omega (arith, after) in
    let there : begins p (drop (k - i) (drop i w)) ≡ true = ap (begins p) (drop-drop (k - i) i w ∙ ap (λ n. drop n w) sum) ∙ f.stands in
    index_of-within w p i (omega (arith, after, within))
    ∙ ap (place_or_none i) (first_place-at p (drop i w) (k - i) (omega (arith, size, within)) there (λ j l. ap (begins p) (drop-drop j i w) ∙ f.before (i + j) (omega arith) (omega (arith, l))))
    ∙ ap pos sum

pub index_of-never : (w p : Word) (i : ℕ) → i ≤ length w → occurs p (drop i w) ≡ false → index_of w p (pos i) ≡ negsuc 0
index_of-never w p i h e = index_of-within w p i h ∙ ap (place_or_none i) (first_place-never p (drop i w) e)

-- an occurrence after a is one in what follows a
pub stands-behind : (a b p x y : Word) → Stands p (a ++ b) x y → length a ≤ length x → (d : Word) × (x ≡ a ++ d) × Stands p b d y
stands-behind [] b p x y s h = (x, refl, s)
stands-behind (c ∷ a) b p [] y s h = absurd (omega (arith, h))
stands-behind (c ∷ a) b p (k ∷ x) y s h =
    let e = tail_same c k (a ++ b) (x ++ (p ++ y)) s in
    let r = stands-behind a b p x y e.1 (omega (arith, h)) in
    (r.0, ap (λ (v : Word). k ∷ v) r.1 ∙ ap (λ n. n ∷ (a ++ r.0)) (sym e.0), r.2)

pub stands-more : (a b p x y : Word) → Stands p b x y → Stands p (a ++ b) (a ++ x) y
stands-more a b p x y s = ap (λ (v : Word). a ++ v) s ∙ sym (append_assoc a x (p ++ y))

-- the word cut at i
module _ (p a b : Word) where
  cut-least : (d c : Word) (j : ℤ) → StandsFirst p b d c → j ≡ pos (length a + length d) → Index (a ++ b) p (len a) j
  cut-least d c j f e =
      let n = length-append a b in
      let k = length-append a d in
      least (a ++ d) c (omega (arith, ints)) (omega (arith, ints, n)) (stands-more a b p d c f.stands) (omega (arith, ints, k))
      (λ x y s g.
      let r = stands-behind a b p x y s (omega (arith, ints, g)) in
      let l = f.least r.0 y r.2 in
      let m = ap length r.1 ∙ length-append a r.0 in
      omega (arith, k, l, m))
      (e ∙ ap pos (sym k))

  cut-missing : (j : ℤ) → StandsNowhere p b → j ≡ negsuc 0 → Index (a ++ b) p (len a) j
  cut-missing j n e = missing (λ lo hi x y s g. let r = stands-behind a b p x y s (omega (arith, ints, g)) in n r.0 y r.2) e

  cut-there : (j : ℤ) → j ≡ index_of (a ++ b) p (len a) → Index (a ++ b) p (len a) j
  cut-there j e = ⊎_elim
      (λ k. cut-least k.0 k.1 j k.2 (e ∙ index_of-found a b p k.0 k.1 k.2))
      (λ n. cut-missing j n (e ∙ index_of-absent a b p n))
      (first_or_nowhere p b)

  cut-first : (x y : Word) → Stands p (a ++ b) x y → len a ≤ℤ len x → ((c d : Word) → Stands p (a ++ b) c d → len a ≤ℤ len c → length x ≤ length c) → index_of (a ++ b) p (len a) ≡ len x
  cut-first x y s g h =
      let r = stands-behind a b p x y s (omega (arith, ints, g)) in
      let m = ap length r.1 ∙ length-append a r.0 in
      let first : StandsFirst p b r.0 y = record {
        stands = r.2;
        least = λ c d t.
            let k = length-append a c in
            let l = h (a ++ c) d (stands-more a b p c d t) (omega (arith, ints, k)) in
            omega (arith, m, k, l);
      } in
      index_of-found a b p r.0 y first ∙ ap pos (sym m)

  cut-nowhere : ((x y : Word) → Stands p (a ++ b) x y → len a ≤ℤ len x → ⊥) → index_of (a ++ b) p (len a) ≡ negsuc 0
  cut-nowhere h = index_of-absent a b p (λ c d t. let k = length-append a c in h (a ++ c) d (stands-more a b p c d t) (omega (arith, ints, k)))

-- a fact of a word that is cut at one of its places
pub by_cut : (P : Word → ℤ → Type 0) → ((a b : Word) → P (a ++ b) (len a)) → (w : Word) (i : ℕ) → i ≤ length w → P w (pos i)
by_cut P f w i h =
    subst (λ x. P x (pos i)) (take-append-drop i w)
    (subst (λ n. P (take i w ++ drop i w) (pos n)) (length-take-le i w h) (f (take i w) (drop i w)))

pub index_of-is : (w p : Word) (i j : ℤ) → (j ≡ index_of w p i) ↔ Index w p i j
index_of-is w p i j = (there i, back i)
  where
    there : (i : ℤ) → j ≡ index_of w p i → Index w p i j
    there (negsuc i) e = missing (λ lo hi x y s g. omega (arith, ints, lo)) e
    there (pos i) e = ⊎_elim
        (λ l. missing (λ lo hi x y s g. omega (arith, ints, hi, l)) (e ∙ index_of-high w p i l))
        (λ l. by_cut (λ v n. j ≡ index_of v p n → Index v p n j) (λ a b. cut-there p a b j) w i l e)
        (cases_lt (length w) i)

    back : (i : ℤ) → Index w p i j → j ≡ index_of w p i
    back (negsuc i) (least x y lo hi s g h e) = omega (arith, ints, lo)
    back (negsuc i) (missing h e) = e
    back (pos i) (least x y lo hi s g h e) =
        e ∙ sym (by_cut (λ v n. Stands p v x y → n ≤ℤ len x → ((c d : Word) → Stands p v c d → n ≤ℤ len c → length x ≤ length c) → index_of v p n ≡ len x) (λ a b. cut-first p a b x y) w i (omega (arith, ints, hi)) s g h)
    back (pos i) (missing h e) = e ∙ ⊎_elim
        (λ l. sym (index_of-high w p i l))
        (λ l. sym (by_cut (λ v n. ((x y : Word) → Stands p v x y → n ≤ℤ len x → ⊥) → index_of v p n ≡ negsuc 0) (λ a b. cut-nowhere p a b) w i l (λ x y s g. h (omega (arith, ints)) (omega (arith, ints, l)) x y s g)))
        (cases_lt (length w) i)
