-- The alternatives say what the functions say, and nothing else.
use Rattle.std.specs.Prelude.{◌≡◌, ◌↔◌, ℕ, zero, suc, ℤ, pos, negsuc, ◌+◌, ◌≤◌, ◌<◌, ◌<ℤ◌, ◌+ℤ◌, ◌-ℤ◌, [], ◌∷◌, ◌++◌, length, take, drop}
use Rattle.std.proofs.Common.{refl, sym, ap, ◌∙◌, subst, arith, ⊎_elim}
use Rattle.std.proofs.lemmas.Int.{ints}
use Rattle.std.proofs.lemmas.Bool.{cases_lt}
use Rattle.std.proofs.lemmas.List.{length-append, take-append-drop, length-take-le}
use Rattle.sv_word.specs.Words.{IsWord}
use Rattle.sv_terms.specs.Language.{Word}
use Rattle.sv_terms.specs.Replacement.{StandsFirst, StandsNowhere}
use Rattle.sv_terms.specs.ReplacementLaws.{first_or_nowhere}
use Rattle.sv_terms.specs.Transduction.{Pairs}
use Rattle.sv_terms.specs.TransductionLaws.{writes_words}
use Rattle.sv_terms.specs.declared.transducer.Transducer.{Transducer}
use Rattle.segment_machines.specs.Substrings.{len, substr, index_of}
use Rattle.segment_machines.specs.SubstringLaws.{substr-part, substr-rest, substr-high, index_of-found, index_of-absent, index_of-high, by_cut}
use Rattle.segment_machines.specs.Marked.{marked, IsMark, IsMarkEnd, IsMarkFound, IsMarkAbsent, IsPicked, picked}
use Rattle.segment_machines.specs.MarkedLaws.{marked-phased, marked-before, marked-part}
use Rattle.segment_machines.specs.Alternatives.{SubstrByWords, SubstrByMachines, start_low, start_high, count_low, whole, cut_off, IndexCaseEmpty, empty_low, empty_high, empty_here, IndexByWords, IndexByMachines, from_low, from_high, found, absent, IsExactly}

-- what is picked from a marked word
picks-before : (a b c : Word) → IsPicked 0 (marked a b c) a
picks-before a b c = (marked-phased a b c, sym (marked-before a b c))

picks-part : (a b c : Word) → IsPicked 1 (marked a b c) b
picks-part a b c = (marked-phased a b c, sym (marked-part a b c))

picked-before : (a b c z x : Word) → z ≡ marked a b c → IsPicked 0 z x → x ≡ a
picked-before a b c z x e p = p.1 ∙ ap (picked 0) e ∙ marked-before a b c

picked-part : (a b c z x : Word) → z ≡ marked a b c → IsPicked 1 z x → x ≡ b
picked-part a b c z x e p = p.1 ∙ ap (picked 1) e ∙ marked-part a b c

no_length : (w : Word) → (w ≡ [] → ⊥) → 1 ≤ length w
no_length [] h = absurd (h refl)
no_length (c ∷ w) h = omega arith

filled : (w : Word) → 1 ≤ length w → w ≡ [] → ⊥
filled w h e = let k = ap length e in omega (arith, h, k)

-- the word cut at m: the part is whole, or it is cut off by the end
cut-substr : (a b : Word) (k : ℕ) (v : Word) → 1 ≤ length b → v ≡ substr (a ++ b) (len a) (pos (suc k)) → SubstrByWords (a ++ b) (len a) (pos (suc k)) v
cut-substr a b k v h e = ⊎_elim short long (cases_lt (length b) (suc k))
  where
    short : length b < suc k → SubstrByWords (a ++ b) (len a) (pos (suc k)) v
    short l =
        let all : v ≡ b = e ∙ substr-rest a b (suc k) (omega (arith, l)) in
        let size = ap length all in
        cut_off (marked a b []) a (a, b, refl, filled b h, refl) (picks-before a b []) (subst (IsPicked 1 (marked a b [])) (sym all) (picks-part a b [])) refl (omega (arith, ints, size, h)) (omega (arith, ints, size, l))

    long : suc k ≤ length b → SubstrByWords (a ++ b) (len a) (pos (suc k)) v
    long l =
        let x = take (suc k) b in
        let y = drop (suc k) b in
        let size : length x ≡ suc k = length-take-le (suc k) b l in
        let split : a ++ b ≡ a ++ (x ++ y) = ap (λ (u : Word). a ++ u) (sym (take-append-drop (suc k) b)) in
        let all : v ≡ x = e ∙ ap (λ (u : Word). substr u (len a) (pos (suc k))) split ∙ substr-part a x y (suc k) size in
        let same = ap length all in
        whole (marked a x y) a (a, x, y, split, filled x (omega (arith, size)), refl) (picks-before a x y) (subst (IsPicked 1 (marked a x y)) (sym all) (picks-part a x y)) refl (ap pos (same ∙ size)) (omega (arith, ints))

pub substr-cases : (w : Word) (m n : ℤ) (v : Word) → (v ≡ substr w m n) ↔ SubstrByWords w m n v
substr-cases w m n v = (there m n, back m n)
  where
    there : (m n : ℤ) → v ≡ substr w m n → SubstrByWords w m n v
    there (negsuc i) n e = start_low (omega (arith, ints)) e
    there (pos i) (negsuc k) e = count_low (omega (arith, ints)) e
    there (pos i) (pos zero) e = count_low (omega (arith, ints)) e
    there (pos i) (pos (suc k)) e = ⊎_elim
        (λ l. by_cut (λ x y. y <ℤ len x → v ≡ substr x y (pos (suc k)) → SubstrByWords x y (pos (suc k)) v)
        (λ a b g. let s = length-append a b in cut-substr a b k v (omega (arith, ints, g, s)))
        w i (omega (arith, l)) (omega (arith, ints, l)) e)
        (λ l. start_high (omega (arith, ints, l)) (e ∙ substr-high w i (suc k) l))
        (cases_lt i (length w))

    back : (m n : ℤ) → SubstrByWords w m n v → v ≡ substr w m n
    back (negsuc i) n (start_low h e) = e
    back (pos i) n (start_low h e) = absurd (omega (arith, ints, h))
    back (negsuc i) n (start_high h e) = e
    back (pos i) (pos k) (start_high h e) = e ∙ sym (substr-high w i k (omega (arith, ints, h)))
    back (pos i) (negsuc k) (start_high h e) = e
    back (negsuc i) n (count_low h e) = e
    back (pos i) (negsuc k) (count_low h e) = e
    back (pos i) (pos zero) (count_low h e) = e
    back (pos i) (pos (suc k)) (count_low h e) = absurd (omega (arith, ints, h))
    back m n (whole z x (a, b, c, split, some, is) p q f g h) =
        let before = picked-before a b c z x is p in
        let part = picked-part a b c z v is q in
        let at : len a ≡ m = ap len (sym before) ∙ f in
        let size : len b ≡ n = ap len (sym part) ∙ g in
        part ∙ sym (
        ap (λ (u : Word). substr u m n) split
        ∙ ap (λ y. substr (a ++ (b ++ c)) y n) (sym at)
        ∙ ap (substr (a ++ (b ++ c)) (len a)) (sym size)
        ∙ substr-part a b c (length b) refl)
    back m (negsuc k) (cut_off z x (a, b, split, some, is) p q f g h) = absurd (omega (arith, ints, h))
    back m (pos k) (cut_off z x (a, b, split, some, is) p q f g h) =
        let before = picked-before a b [] z x is p in
        let part = picked-part a b [] z v is q in
        let same = ap length part in
        let at : len a ≡ m = ap len (sym before) ∙ f in
        part ∙ sym (
        ap (λ (u : Word). substr u m (pos k)) split
        ∙ ap (λ y. substr (a ++ b) y (pos k)) (sym at)
        ∙ substr-rest a b k (omega (arith, ints, same, h)))

-- the word cut at i
cut-index : (p a b : Word) (j : ℤ) → j ≡ index_of (a ++ b) p (len a) → IndexByWords (a ++ b) p (len a) j
cut-index p a b j e = ⊎_elim some nowhere (first_or_nowhere p b)
  where
    some : ((d c : Word) × StandsFirst p b d c) → IndexByWords (a ++ b) p (len a) j
    some k =
        let d = k.0 in
        let c = k.1 in
        let n = length-append d p in
        let at : j ≡ pos (length a + length d) = e ∙ index_of-found a b p d c k.2 in
        found (marked a (d ++ p) c) a (d ++ p) (a, b, d, c, refl, k.2, refl) (picks-before a (d ++ p) c) (picks-part a (d ++ p) c) refl (at ∙ place (length a) (length d) (length p) (length (d ++ p)) n)
      where
        place : (x y q s : ℕ) → s ≡ y + q → pos (x + y) ≡ (pos x +ℤ pos s) -ℤ pos q
        place x y q s h = omega (arith, ints, h)

    nowhere : StandsNowhere p b → IndexByWords (a ++ b) p (len a) j
    nowhere n = absent (marked a b []) a (a, b, refl, n, refl) (picks-before a b []) refl (e ∙ index_of-absent a b p n)

pub index_of-cases : (w p : Word) (i j : ℤ) → (p ≡ [] → ⊥) → (j ≡ index_of w p i) ↔ IndexByWords w p i j
index_of-cases w p i j some = (there i, back i)
  where
    there : (i : ℤ) → j ≡ index_of w p i → IndexByWords w p i j
    there (negsuc i) e = from_low (omega (arith, ints)) e
    there (pos i) e = ⊎_elim
        (λ l. from_high (omega (arith, ints, l)) (e ∙ index_of-high w p i l))
        (λ l. by_cut (λ v n. j ≡ index_of v p n → IndexByWords v p n j) (λ a b. cut-index p a b j) w i l e)
        (cases_lt (length w) i)

    back : (i : ℤ) → IndexByWords w p i j → j ≡ index_of w p i
    back (negsuc i) (from_low h e) = e
    back (pos i) (from_low h e) = absurd (omega (arith, ints, h))
    back (negsuc i) (from_high h e) = e
    back (pos i) (from_high h e) = e ∙ sym (index_of-high w p i (omega (arith, ints, h)))
    back i (found z x y (a, b, d, c, split, first, is) p0 p1 f g) =
        let before = picked-before a (d ++ p) c z x is p0 in
        let part = picked-part a (d ++ p) c z y is p1 in
        let n = ap length part ∙ length-append d p in
        let at : len a ≡ i = ap len (sym before) ∙ f in
        let k = ap length before in
        g ∙ place (length x) (length y) (length p) (length a) (length d) k n
        ∙ sym (ap (λ (u : Word). index_of u p i) split ∙ ap (index_of (a ++ b) p) (sym at) ∙ index_of-found a b p d c first)
      where
        place : (x y q a d : ℕ) → x ≡ a → y ≡ d + q → (pos x +ℤ pos y) -ℤ pos q ≡ pos (a + d)
        place x y q a d h g = omega (arith, ints, h, g)
    back i (absent z x (a, b, split, nowhere, is) p0 f g) =
        let before = picked-before a b [] z x is p0 in
        let at : len a ≡ i = ap len (sym before) ∙ f in
        g ∙ sym (ap (λ (u : Word). index_of u p i) split ∙ ap (index_of (a ++ b) p) (sym at) ∙ index_of-absent a b p nowhere)

-- the empty pattern stands at each place
empty-first : (b : Word) → StandsFirst [] b [] b
empty-first b = record { stands = refl; least = λ c d s. omega arith }

pub index_of-empty : (w : Word) (i j : ℤ) → (j ≡ index_of w [] i) ↔ IndexCaseEmpty w i j
index_of-empty w i j = (there i, back i)
  where
    at : (i : ℕ) → i ≤ length w → index_of w [] (pos i) ≡ pos i
    at i h = by_cut (λ v n. index_of v [] n ≡ n) (λ a b. index_of-found a b [] [] b (empty-first b) ∙ ap pos (let s : length a + 0 ≡ length a = omega arith in s)) w i h

    there : (i : ℤ) → j ≡ index_of w [] i → IndexCaseEmpty w i j
    there (negsuc i) e = empty_low (omega (arith, ints)) e
    there (pos i) e = ⊎_elim
        (λ l. empty_high (omega (arith, ints, l)) (e ∙ index_of-high w [] i l))
        (λ l. empty_here (omega (arith, ints)) (omega (arith, ints, l)) (e ∙ at i l))
        (cases_lt (length w) i)

    back : (i : ℤ) → IndexCaseEmpty w i j → j ≡ index_of w [] i
    back (negsuc i) (empty_low h e) = e
    back (pos i) (empty_low h e) = absurd (omega (arith, ints, h))
    back (negsuc i) (empty_high h e) = e
    back (pos i) (empty_high h e) = e ∙ sym (index_of-high w [] i (omega (arith, ints, h)))
    back (negsuc i) (empty_here h g e) = absurd (omega (arith, ints, h))
    back (pos i) (empty_here h g e) = e ∙ sym (at i (omega (arith, ints, g)))

-- what a transducer relates with a word is a word
module _ (related : Word → Word → Type 0) (t : Transducer) (is : IsExactly related t) where
  pairs-of : (w z : Word) → IsWord w → related w z → Pairs t w z
  pairs-of w z h r = (is.exact w z).1 (h, r)

  related-of : (w z : Word) → Pairs t w z → related w z
  related-of w z p = ((is.exact w z).0 p).1

  word-of : (w z : Word) → IsWord w → related w z → IsWord z
  word-of w z h r = (writes_words t is.formed t.start w z (pairs-of w z h r)).1

-- the alternatives by machines
module _ (before part : Transducer) (is_before : IsExactly (IsPicked 0) before) (is_part : IsExactly (IsPicked 1) part) where
  pub substr-machines : (mark end : Transducer) → IsExactly IsMark mark → IsExactly IsMarkEnd end → (w : Word) (m n : ℤ) (v : Word) → IsWord w
      → (v ≡ substr w m n) ↔ SubstrByMachines mark end before part w m n v
  substr-machines mark end is_mark is_end w m n v h = (λ e. there ((substr-cases w m n v).0 e), λ k. (substr-cases w m n v).1 (back k))
    where
      there : SubstrByWords w m n v → SubstrByMachines mark end before part w m n v
      there (start_low l e) = start_low l e
      there (start_high l e) = start_high l e
      there (count_low l e) = count_low l e
      there (whole z a k p q f g l) =
          let word = word-of IsMark mark is_mark w z h k in
          whole z a (pairs-of IsMark mark is_mark w z h k) (pairs-of (IsPicked 0) before is_before z a word p) (pairs-of (IsPicked 1) part is_part z v word q) f g l
      there (cut_off z a k p q f g l) =
          let word = word-of IsMarkEnd end is_end w z h k in
          cut_off z a (pairs-of IsMarkEnd end is_end w z h k) (pairs-of (IsPicked 0) before is_before z a word p) (pairs-of (IsPicked 1) part is_part z v word q) f g l

      back : SubstrByMachines mark end before part w m n v → SubstrByWords w m n v
      back (start_low l e) = start_low l e
      back (start_high l e) = start_high l e
      back (count_low l e) = count_low l e
      back (whole z a k p q f g l) = whole z a (related-of IsMark mark is_mark w z k) (related-of (IsPicked 0) before is_before z a p) (related-of (IsPicked 1) part is_part z v q) f g l
      back (cut_off z a k p q f g l) = cut_off z a (related-of IsMarkEnd end is_end w z k) (related-of (IsPicked 0) before is_before z a p) (related-of (IsPicked 1) part is_part z v q) f g l

  pub index_of-machines : (p : Word) (some missing : Transducer) → IsExactly (IsMarkFound p) some → IsExactly (IsMarkAbsent p) missing → (p ≡ [] → ⊥) → (w : Word) (i j : ℤ) → IsWord w
      → (j ≡ index_of w p i) ↔ IndexByMachines some missing before part w p i j
  index_of-machines p some missing is_some is_missing filled_p w i j h = (λ e. there ((index_of-cases w p i j filled_p).0 e), λ k. (index_of-cases w p i j filled_p).1 (back k))
    where
      there : IndexByWords w p i j → IndexByMachines some missing before part w p i j
      there (from_low l e) = from_low l e
      there (from_high l e) = from_high l e
      there (found z a x k q r f g) =
          let word = word-of (IsMarkFound p) some is_some w z h k in
          found z a x (pairs-of (IsMarkFound p) some is_some w z h k) (pairs-of (IsPicked 0) before is_before z a word q) (pairs-of (IsPicked 1) part is_part z x word r) f g
      there (absent z a k q f g) =
          let word = word-of (IsMarkAbsent p) missing is_missing w z h k in
          absent z a (pairs-of (IsMarkAbsent p) missing is_missing w z h k) (pairs-of (IsPicked 0) before is_before z a word q) f g

      back : IndexByMachines some missing before part w p i j → IndexByWords w p i j
      back (from_low l e) = from_low l e
      back (from_high l e) = from_high l e
      back (found z a x k q r f g) = found z a x (related-of (IsMarkFound p) some is_some w z k) (related-of (IsPicked 0) before is_before z a q) (related-of (IsPicked 1) part is_part z x r) f g
      back (absent z a k q f g) = absent z a (related-of (IsMarkAbsent p) missing is_missing w z k) (related-of (IsPicked 0) before is_before z a q) f g
