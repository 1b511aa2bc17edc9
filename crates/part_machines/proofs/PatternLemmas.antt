-- The state of a pattern's table after a word: the length of the longest beginning of the pattern that ends the word.
use Rattle.std.proofs.Common.{◌≡◌, ℕ, zero, suc, ◌+◌, ◌-◌, ◌<◌, ◌≤◌, ◌↔◌, ◌⊎◌, inl, inr, ⊎_elim, Bool, true, false, ◌&&◌, nat_eq, if◌then◌else◌, List, [], ◌∷◌, ◌++◌, length, drop, map, slice_get, get_or, Some, None, refl, sym, ap, ◌∙◌, subst, arith}
use Rattle.std.specs.Prelude.{reverse}
use Rattle.std.specs.List.{AllByRecursion}
use Rattle.std.proofs.lemmas.Bool.{eqb-true, eq-eqb}
use Rattle.std.proofs.lemmas.List.{append-nil, append_assoc, length-append, length-reverse, get_or-reverse, get_or_append_left, reverse-append, reverse-reverse}
use Rattle.sv_list.specs.Lists.{slice_get-some}
use Rattle.sv_word.specs.Words.{greatest_character}
use Rattle.sv_terms.specs.Language.{Word}
use Rattle.sv_terms.specs.Replacement.{begins, occurs}
use Rattle.sv_terms.specs.ReplacementLaws.{begins-of, begins-split}
use Rattle.sv_terms.specs.PatternLaws.{fits}
use Rattle.machine_core.specs.declared.graph.Graph.{Graph}
use Rattle.replace_machines.specs.Borders.{IsBorder, IsNext}
use Rattle.replace_machines.specs.Rows.{at, target, Ascends, AreMatchRows, IsBorderOf}
use Rattle.replace_machines.proofs.RowLemmas.{less_or_not, target-below}
use Rattle.part_machines.specs.declared.table.TableLeg.{TableLeg}
use Rattle.part_machines.specs.declared.table.TableRow.{TableRow}
use Rattle.part_machines.specs.Parts.{Decides}
use Rattle.part_machines.specs.Patterns.{ArePatternRows, AreStatesNeeded, NextOfWhole, finds, spread, spread_row}
use Rattle.part_machines.specs.Tables.{IsOfTable, IsRow, after, lead, lead_by, leg, next}
use Rattle.part_machines.proofs.TableLemmas.{lead-here, lead-later, table-decides}

pub lead-spread : (row : List (ℕ × ℕ)) (low c : ℕ) → Ascends low row → lead 0 (spread row) c ≡ target row c
lead-spread [] low c h = refl
lead-spread (p ∷ row) low c h = by (nat_eq p.0 c) refl (lead-spread row (suc p.0) c h.2)
  where
    by : (b : Bool) → nat_eq p.0 c ≡ b → lead 0 (spread row) c ≡ target row c → lead 0 (spread (p ∷ row)) c ≡ target (p ∷ row) c
    by true e rest =
        let x = eqb-true p.0 c e in
        let low : p.0 ≤ c = omega (arith, x) in
        let high : c < p.0 + 1 = omega (arith, x) in
        let second = leg (p.0 + 1) p.1 in
        lead-later 0 (leg p.0 0) (second ∷ spread row) c low ∙ lead-here 0 second (spread row) c high ∙ sym (ap (λ b. if b then p.1 else target row c) e)
    by false e rest =
        let skip : target (p ∷ row) c ≡ target row c = ap (λ b. if b then p.1 else target row c) e in
        let second = leg (p.0 + 1) p.1 in
        ⊎_elim
        (λ a. let x = a.0 in lead-here 0 (leg p.0 0) (second ∷ spread row) c x ∙ sym (target-below row (suc p.0) c h.2 (omega (arith, x))) ∙ sym skip)
        (λ b.
        let x = b.0 in
        ⊎_elim
        (λ d.
        let y = d.0 in
        let same : p.0 ≡ c = omega (arith, x, y) in
        let t = eq-eqb p.0 c same in
        absurd (let z : true ≡ false = sym t ∙ e in cc))
        (λ d. lead-later 0 (leg p.0 0) (second ∷ spread row) c x ∙ lead-later 0 second (spread row) c d.0 ∙ rest ∙ sym skip)
        (less_or_not c (p.0 + 1)))
        (less_or_not c p.0)

pub spread-formed : (row : List (ℕ × ℕ)) (low : ℕ) → Ascends low row → AllByRecursion (λ (l : TableLeg). l.stop ≤ greatest_character + 1) (spread row)
spread-formed [] low h = tt
spread-formed (p ∷ row) low h = let x = h.1 in (omega (arith, x), (omega (arith, x), spread-formed row (suc p.0) h.2))

-- once no character is left
pub legs-formed : (row : List (ℕ × ℕ)) (legs : List TableLeg) (i : ℕ) → Ascends 0 row → length row ≤ i → spread row ≡ legs ++ spread (drop i row) → AllByRecursion (λ (l : TableLeg). l.stop ≤ greatest_character + 1) legs
legs-formed row legs i h past e =
    let all : spread row ≡ legs = e ∙ ap (λ l. legs ++ spread l) (drop_all row i past) ∙ append-nil legs in
    subst (AllByRecursion (λ (l : TableLeg). l.stop ≤ greatest_character + 1)) all (spread-formed row 0 h)
  where
    drop_all : (xs : List (ℕ × ℕ)) (i : ℕ) → length xs ≤ i → drop i xs ≡ []
    drop_all [] zero h = refl
    drop_all [] (suc i) h = refl
    drop_all (x ∷ xs) zero h = absurd (omega (arith, h))
    drop_all (x ∷ xs) (suc i) h = drop_all xs i (omega (arith, h))

pub ascends-at : (row : List (ℕ × ℕ)) (low i : ℕ) (d : ℕ × ℕ) → Ascends low row → i < length row → (get_or row i d).0 ≤ greatest_character
ascends-at [] low i d h lt = absurd (omega (arith, lt))
ascends-at (p ∷ row) low zero d h lt = h.1
ascends-at (p ∷ row) low (suc i) d h lt = ascends-at row (suc p.0) i d h.2 (omega (arith, lt))

-- `r` is what was read, the last character first: it begins with the first j characters of the pattern, backward
pub record Spells (p r : Word) (j : ℕ) : Type 0 where
  pub room : j ≤ length r
  pub each : (i : ℕ) → i < j → get_or r i 0 ≡ at p (j - 1 - i)

-- and with no longer beginning
pub record IsLongest (p r : Word) (q : ℕ) : Type 0 where
  pub within : q ≤ length p
  pub spelled : Spells p r q
  pub most : (i : ℕ) → i ≤ length p → Spells p r i → i ≤ q

spells-none : (p r : Word) → Spells p r 0
spells-none p r = record { room = omega arith; each = λ i h. absurd (omega (arith, h)) }

spells-next : (p r : Word) (j c : ℕ) → Spells p r j → at p j ≡ c → Spells p (c ∷ r) (suc j)
spells-next p r j c h e = record { room = (let x = h.room in omega (arith, x)); each = each }
  where
    each : (i : ℕ) → i < suc j → get_or (c ∷ r) i 0 ≡ at p (suc j - 1 - i)
    each zero lt = sym e ∙ ap (at p) (let n : j ≡ suc j - 1 - 0 = omega arith in n)
    each (suc i) lt = h.each i (omega (arith, lt)) ∙ ap (at p) (let n : j - 1 - i ≡ suc j - 1 - suc i = omega arith in n)

spells-back : (p r : Word) (j c : ℕ) → Spells p (c ∷ r) (suc j) → Spells p r j × (at p j ≡ c)
spells-back p r j c h = (
  record {
    room = (let x = h.room in omega (arith, x));
    each = λ i lt. h.each (suc i) (omega (arith, lt)) ∙ ap (at p) (let n : suc j - 1 - suc i ≡ j - 1 - i = omega arith in n);
  },
  sym (h.each zero (omega arith) ∙ ap (at p) (let n : suc j - 1 - 0 ≡ j = omega arith in n)),
)

border-spells : (p r : Word) (q j : ℕ) → Spells p r q → IsBorder (at p) q j → Spells p r j
border-spells p r q j h b = record {
  room = (let x = h.room in let y = b.0 in omega (arith, x, y));
  each = λ i lt.
      let y = b.0 in
      h.each i (omega (arith, lt, y)) ∙ ap (at p) (let n : q - 1 - i ≡ q - j + (j - 1 - i) = omega (arith, lt, y) in n) ∙ b.1 (j - 1 - i) (omega (arith, lt));
}

spells-border : (p r : Word) (q j : ℕ) → Spells p r q → Spells p r j → j ≤ q → IsBorder (at p) q j
spells-border p r q j h g le = (
  le,
  λ i lt.
      ap (at p) (let n : q - j + i ≡ q - 1 - (j - 1 - i) = omega (arith, lt, le) in n)
      ∙ sym (h.each (j - 1 - i) (omega (arith, lt, le)))
      ∙ g.each (j - 1 - i) (omega (arith, lt))
      ∙ ap (at p) (let n : j - 1 - (j - 1 - i) ≡ i = omega (arith, lt) in n),
)

-- one character more, from the longest beginning that isn't the whole pattern
longest-next : (p r : Word) (q c j : ℕ) → q < length p → Spells p r q → ((i : ℕ) → i < length p → Spells p r i → i ≤ q) → IsNext (at p) q c j → IsLongest p (c ∷ r) j
longest-next p r q c j lt h most n = record { within = within; spelled = spelled; most = longest }
  where
    within : j ≤ length p
    within = ⊎_elim (λ e. omega (arith, e)) (λ f. let x = f.1 in let y = f.2.0 in omega (arith, x, y, lt)) n.fits

    spelled : Spells p (c ∷ r) j
    spelled = ⊎_elim
        (λ e. subst (Spells p (c ∷ r)) (sym e) (spells-none p (c ∷ r)))
        (λ f. subst (Spells p (c ∷ r)) (sym f.1) (spells-next p r f.0 c (border-spells p r q f.0 h f.2) f.3))
        n.fits

    longest : (i : ℕ) → i ≤ length p → Spells p (c ∷ r) i → i ≤ j
    longest zero le s = omega arith
    longest (suc i) le s =
        let b = spells-back p r i c s in
        let x = n.most i (spells-border p r q i h b.0 (most i (omega (arith, le)) b.0)) b.1 in
        omega (arith, x)

-- the same characters in the order of the word
begins-at : (x r : Word) → length x ≤ length r → ((i : ℕ) → i < length x → get_or r i 0 ≡ get_or x i 0) → begins x r ≡ true
begins-at [] r h e = refl
begins-at (c ∷ x) [] h e = absurd (omega (arith, h))
begins-at (c ∷ x) (d ∷ r) h e =
    ap (λ b. b && begins x r) (eq-eqb c d (sym (e zero (omega arith))))
    ∙ begins-at x r (omega (arith, h)) (λ i lt. e (suc i) (omega (arith, lt)))

spells-begins : (p r : Word) → Spells p r (length p) → begins (reverse p) r ≡ true
spells-begins p r h =
    let n = length-reverse p in
    begins-at (reverse p) r (let x = h.room in omega (arith, x, n)) (λ i lt. let k : i < length p = omega (arith, lt, n) in h.each i k ∙ sym (get_or-reverse p i 0 k))

begins-spells : (p r : Word) → begins (reverse p) r ≡ true → Spells p r (length p)
begins-spells p r h =
    let n = length-reverse p in
    record {
      room = (let x = fits (reverse p) r h in omega (arith, x, n));
      each = λ i lt.
          let k : i < length (reverse p) = omega (arith, lt, n) in
          ap (λ (v : Word). get_or v i 0) (begins-split (reverse p) r h) ∙ get_or_append_left (reverse p) (drop (length (reverse p)) r) 0 i k ∙ get_or-reverse p i 0 lt;
    }

-- what was read before, and then a word, the last character first
abbrev onto : Word → Word → Word
onto r [] = r
onto r (c ∷ w) = onto (c ∷ r) w

onto-reverse : (w r : Word) → onto r w ≡ reverse w ++ r
onto-reverse [] r = refl
onto-reverse (c ∷ w) r = onto-reverse w (c ∷ r) ∙ sym (append_assoc (reverse w) (c ∷ []) r) ∙ sym (ap (λ v. v ++ r) (reverse-append (c ∷ []) w))

onto-all : (w : Word) → onto [] w ≡ reverse w
onto-all w = onto-reverse w [] ∙ append-nil (reverse w)

first-longest : (p : Word) → IsLongest p [] 0
first-longest p = record { within = omega arith; spelled = spells-none p []; most = λ i h s. let x = s.room in omega (arith, x) }

longest-same : (p r : Word) (q c t : ℕ) → length p ≡ 0 → t ≡ 0 → IsLongest p r t
longest-same p r q c t z e = subst (IsLongest p r) (sym e) (record { within = omega arith; spelled = spells-none p r; most = λ i h s. omega (arith, h, z) })

-- the words that end with the pattern
module _ (p : Word) (rows : List TableRow) (are : ArePatternRows false p rows) where
  end-next : (r : Word) (q c : ℕ) → IsLongest p r q → IsLongest p (c ∷ r) (next rows q c)
  end-next r q c h = ⊎_elim
      (λ a. longest-next p r q c (next rows q c) a.0 h.spelled (λ i lt s. h.most i (omega (arith, lt)) s) (are.part q c a.0))
      (λ b. let x = b.0 in let y = h.within in whole (let e : q ≡ length p = omega (arith, x, y) in e))
      (less_or_not q (length p))
    where
      whole : q ≡ length p → IsLongest p (c ∷ r) (next rows q c)
      whole e = subst (λ k. IsLongest p (c ∷ r) (next rows k c)) (sym e) (⊎_elim
          (λ z. longest-same p (c ∷ r) q c (next rows (length p) c) z.0 z.1)
          (λ f.
          let all = subst (Spells p r) e h.spelled in
          longest-next p r f.0 c (next rows (length p) c) f.1.proper (border-spells p r (length p) f.0 all f.1.border)
          (λ i lt s. f.1.most i lt (spells-border p r (length p) i all s (omega (arith, lt)))) f.2)
          (are.whole c))

  end-after : (w r : Word) (q : ℕ) → IsLongest p r q → IsLongest p (onto r w) (after (next rows) q w)
  end-after [] r q h = h
  end-after (c ∷ w) r q h = end-after w (c ∷ r) (next rows q c) (end-next r q c h)

  end-tells : (w : Word) → (after (next rows) 0 w ≡ length p) ↔ (begins (reverse p) (reverse w) ≡ true)
  end-tells w =
      let l = subst (λ v. IsLongest p v (after (next rows) 0 w)) (onto-all w) (end-after w [] 0 (first-longest p)) in (
        λ e. spells-begins p (reverse w) (subst (Spells p (reverse w)) e l.spelled),
        λ b. let x = l.most (length p) (omega arith) (begins-spells p (reverse w) b) in let y = l.within in omega (arith, x, y),
      )

  end-within : (w r : Word) (q : ℕ) → IsLongest p r q → after (next rows) q w ≤ length p
  end-within w r q h = (end-after w r q h).within

-- the pattern ends what was read, somewhere within the word
abbrev Later : Word → Word → Word → Type 0
Later p r [] = ⊥
Later p r (c ∷ w) = Spells p (c ∷ r) (length p) ⊎ Later p (c ∷ r) w

later-out : (p w r : Word) → Later p r w → (a b : Word) × (w ≡ a ++ b) × Spells p (onto r a) (length p)
later-out p [] r h = absurd h
later-out p (c ∷ w) r (inl s) = (c ∷ [], w, refl, s)
later-out p (c ∷ w) r (inr h) = let o = later-out p w (c ∷ r) h in (c ∷ o.0, o.1, ap (λ v. c ∷ v) o.2, o.3)

later-in : (p a b r : Word) → 0 < length a → Spells p (onto r a) (length p) → Later p r (a ++ b)
later-in p [] b r some s = absurd (omega (arith, some))
later-in p (c ∷ []) b r some s = inl s
later-in p (c ∷ d ∷ a) b r some s = inr (later-in p (d ∷ a) b (c ∷ r) (omega arith) s)

if-true : (b x : Bool) → x ≡ true → (if b then true else x) ≡ true
if-true true x e = refl
if-true false x e = e

begins-occurs : (p w : Word) → begins p w ≡ true → occurs p w ≡ true
begins-occurs p [] h = h
begins-occurs p (c ∷ w) h = ap (λ b. if b then true else occurs p w) h

stands-occurs : (a b p : Word) → occurs p (a ++ (p ++ b)) ≡ true
stands-occurs [] b p = begins-occurs p (p ++ b) (begins-of p b)
stands-occurs (c ∷ a) b p = if-true (begins p (c ∷ (a ++ (p ++ b)))) (occurs p (a ++ (p ++ b))) (stands-occurs a b p)

occurs-stands : (w p : Word) → occurs p w ≡ true → (a b : Word) × (w ≡ a ++ (p ++ b))
occurs-stands [] p h = ([], drop (length p) [], begins-split p [] h)
occurs-stands (c ∷ w) p h = by (begins p (c ∷ w)) refl (occurs-stands w p)
  where
    by : (t : Bool) → begins p (c ∷ w) ≡ t → (occurs p w ≡ true → (a b : Word) × (w ≡ a ++ (p ++ b))) → (a b : Word) × ((c ∷ w) ≡ a ++ (p ++ b))
    by true e later = ([], drop (length p) (c ∷ w), begins-split p (c ∷ w) e)
    by false e later = let o = later (sym (ap (λ t. if t then true else occurs p w) e) ∙ h) in (c ∷ o.0, o.1, ap (λ v. c ∷ v) o.2)

later-occurs : (p w : Word) → 0 < length p → Later p [] w ↔ (occurs p w ≡ true)
later-occurs p w some = (out, back)
  where
    out : Later p [] w → occurs p w ≡ true
    out h =
        let o = later-out p w [] h in
        let a = o.0 in
        let b = o.1 in
        let g = spells-begins p (reverse a) (subst (λ v. Spells p v (length p)) (onto-all a) o.3) in
        let d = drop (length (reverse p)) (reverse a) in
        let e : a ≡ reverse d ++ p = sym (reverse-reverse a) ∙ ap reverse (begins-split (reverse p) (reverse a) g) ∙ reverse-append (reverse p) d ∙ ap (λ v. reverse d ++ v) (reverse-reverse p) in
        ap (occurs p) (o.2 ∙ ap (λ v. v ++ b) e ∙ append_assoc (reverse d) p b) ∙ stands-occurs (reverse d) b p

    back : occurs p w ≡ true → Later p [] w
    back h =
        let o = occurs-stands w p h in
        let a = o.0 in
        let b = o.1 in
        let whole : w ≡ (a ++ p) ++ b = o.2 ∙ sym (append_assoc a p b) in
        let n = length-append a p in
        let g : begins (reverse p) (onto [] (a ++ p)) ≡ true = ap (begins (reverse p)) (onto-all (a ++ p) ∙ reverse-append a p) ∙ begins-of (reverse p) (reverse a) in
        subst (Later p []) (sym whole) (later-in p (a ++ p) b [] (omega (arith, n, some)) (begins-spells p (onto [] (a ++ p)) g))

-- the words in which the pattern occurs
module _ (p : Word) (rows : List TableRow) (are : ArePatternRows true p rows) where
  stays-found : (w : Word) → after (next rows) (length p) w ≡ length p
  stays-found [] = refl
  stays-found (c ∷ w) = ap (λ s. after (next rows) s w) (are.whole c) ∙ stays-found w

  found : (w r : Word) (q : ℕ) → q < length p → IsLongest p r q → (after (next rows) q w ≡ length p) ↔ Later p r w
  found [] r q lt h = (λ e. omega (arith, e, lt), λ b. absurd b)
  found (c ∷ w) r q lt h = ⊎_elim
      (λ a.
      let rest = found w (c ∷ r) (next rows q c) a.0 l in
      (λ e. inr (rest.0 e), λ f. ⊎_elim (λ s. let x = l.most (length p) (omega arith) s in let y = a.0 in absurd (omega (arith, x, y))) (λ g. rest.1 g) f))
      (λ b.
      let x = b.0 in
      let y = l.within in
      let e : next rows q c ≡ length p = omega (arith, x, y) in
      (λ f. inl (subst (Spells p (c ∷ r)) e l.spelled), λ f. ap (λ s. after (next rows) s w) e ∙ stays-found w))
      (less_or_not (next rows q c) (length p))
    where
      l : IsLongest p (c ∷ r) (next rows q c)
      l = longest-next p r q c (next rows q c) lt h.spelled (λ i le s. h.most i (omega (arith, le)) s) (are.part q c lt)

  none-occurs : (w : Word) → length p ≡ 0 → occurs p w ≡ true
  none-occurs w z = begins-occurs p w (begins-at p w (omega (arith, z)) (λ i lt. absurd (omega (arith, lt, z))))

  found-tells : (w : Word) → (after (next rows) 0 w ≡ length p) ↔ (occurs p w ≡ true)
  found-tells w = ⊎_elim
      (λ a. let f = found w [] 0 a.0 (first-longest p) in let g = later-occurs p w a.0 in (λ e. g.0 (f.0 e), λ e. f.1 (g.1 e)))
      (λ b.
      let x = b.0 in
      let z : length p ≡ 0 = omega (arith, x) in
      (λ e. none-occurs w z, λ e. ap (λ s. after (next rows) s w) (sym z) ∙ stays-found w))
      (less_or_not 0 (length p))

  found-within : (w r : Word) (q : ℕ) → (q < length p → IsLongest p r q) → q ≤ length p → after (next rows) q w ≤ length p
  found-within [] r q h le = le
  found-within (c ∷ w) r q h le = ⊎_elim
      (λ a.
      let l = longest-next p r q c (next rows q c) a.0 (h a.0).spelled (λ i lt s. (h a.0).most i (omega (arith, lt)) s) (are.part q c a.0) in
      found-within w (c ∷ r) (next rows q c) (λ lt. l) l.within)
      (λ b.
      let x = b.0 in
      let e : length p ≡ q = omega (arith, x, le) in
      let n = ap (λ s. after (next rows) s (c ∷ w)) (sym e) ∙ stays-found (c ∷ w) in
      omega (arith, n))
      (less_or_not q (length p))

past-rows : (rows : List TableRow) (s c : ℕ) → length rows ≤ s → next rows s c ≡ s
past-rows rows s c h = ap (λ o. lead_by o s c) (past rows s h)
  where
    past : (xs : List TableRow) (i : ℕ) → length xs ≤ i → slice_get xs i ≡ None
    past [] i h = refl
    past (x ∷ xs) zero h = absurd (omega (arith, h))
    past (x ∷ xs) (suc i) h = past xs i (omega (arith, h))

-- the machine of a pattern, with a state for the whole of it
whole-decides : (stays : Bool) (p : Word) (holds : Bool) (rows : List TableRow) (m : Graph) → ArePatternRows stays p rows → m.states ≡ length p + 1 → IsOfTable (next rows) (length p) holds m → Decides (finds stays p) holds (length p + 1) m
whole-decides true p holds rows m are size table =
    table-decides holds (next rows) (length p) (length p + 1) (occurs p) m table
    (λ s c h. let n = are.size in let e = past-rows rows s c (omega (arith, h, n, size)) in omega (arith, e, h))
    (found-tells p rows are) (λ t. omega (arith, size))
    (λ f w past. let x = found-within p rows are w [] 0 (λ lt. first-longest p) (omega arith) in omega (arith, x, size))
    (omega (arith, size))
whole-decides false p holds rows m are size table =
    table-decides holds (next rows) (length p) (length p + 1) (λ w. begins (reverse p) (reverse w)) m table
    (λ s c h. let n = are.size in let e = past-rows rows s c (omega (arith, h, n, size)) in omega (arith, e, h))
    (end-tells p rows are) (λ t. omega (arith, size))
    (λ f w past. let x = end-within p rows are w [] 0 (first-longest p) in omega (arith, x, size))
    (omega (arith, size))

-- without that state, which no way leaves
pub found-stuck : (p : Word) (rows : List TableRow) → ArePatternRows true p rows → (s c : ℕ) → length p ≤ s → length p ≤ next rows s c
found-stuck p rows are s c h = ⊎_elim
    (λ a. let x = a.0 in let here : length p ≡ s = omega (arith, x, h) in let e = ap (λ k. next rows k c) (sym here) ∙ are.whole c in omega (arith, e))
    (λ b. let x = b.0 in let n = are.size in let e = past-rows rows s c (omega (arith, x, n)) in omega (arith, e, h))
    (less_or_not s (length p + 1))

barred-decides : (p : Word) (rows : List TableRow) (m : Graph) → ArePatternRows true p rows → m.states ≡ length p → IsOfTable (next rows) (length p) false m → Decides (finds true p) false (length p + 1) m
barred-decides p rows m are size table =
    table-decides false (next rows) (length p) (length p + 1) (occurs p) m table
    (λ s c h. let x = found-stuck p rows are s c (omega (arith, h, size)) in omega (arith, x, size))
    (found-tells p rows are) (λ t. cc)
    (λ f w past. let x = found-within p rows are w [] 0 (λ lt. first-longest p) (omega arith) in below (after (next rows) 0 w) past x)
    (omega (arith, size))
  where
    below : (s : ℕ) → (s ≡ length p → ⊥) → s ≤ length p → s < m.states
    below s past h = ⊎_elim (λ a. let x = a.0 in omega (arith, x, size)) (λ b. let x = b.0 in absurd (past (omega (arith, x, h)))) (less_or_not s (length p))

pub pattern-decides : (stays : Bool) (p : Word) (holds : Bool) (states : ℕ) (rows : List TableRow) (m : Graph) → ArePatternRows stays p rows → AreStatesNeeded stays holds (length p) states → m.states ≡ states → IsOfTable (next rows) (length p) holds m
    → Decides (finds stays p) holds (length p + 1) m
pattern-decides stays p holds states rows m are (inl whole) size table = whole-decides stays p holds rows m are (size ∙ whole) table
pattern-decides true p false states rows m are (inr barred) size table = barred-decides p rows m are (size ∙ barred.3) table
pattern-decides true p true states rows m are (inr barred) size table = let e = barred.1 in cc
pattern-decides false p holds states rows m are (inr barred) size table = let e = barred.0 in cc

no-row : (rows : List (List (ℕ × ℕ))) (m : ℕ) (back : List (ℕ × ℕ)) → length rows ≡ 0 → slice_get rows m ≡ Some back → ⊥
no-row [] m back e got = cc
no-row (x ∷ rows) m back e got = omega (arith, e)

pub whole-back : (stays : Bool) (p : Word) (rows : List (List (ℕ × ℕ))) (back : List (ℕ × ℕ)) (m : ℕ) (row : TableRow) → stays ≡ false → length rows ≡ length p → AreMatchRows p rows → IsBorderOf p (length p) m → slice_get rows m ≡ Some back
    → row ≡ spread_row back → (c : ℕ) → NextOfWhole stays p c (lead row.rest row.legs c)
whole-back true p rows back m row e size are b got is c = cc
whole-back false p rows back m row e size are b got is c = subst (λ (x : TableRow). NextOfWhole false p c (lead x.rest x.legs c)) (sym is) (⊎_elim
    (λ z. absurd (no-row rows m back (size ∙ z.0) got))
    (λ f. let r = are.row m back got in inr (m, f, subst (IsNext (at p) m c) (sym (lead-spread back 0 c r.ascends)) (r.next c)))
    b)

pub row-ascends : (p : Word) (rows items : List (List (ℕ × ℕ))) (i : ℕ) (row r : List (ℕ × ℕ)) → items ≡ rows → AreMatchRows p rows → i < length items → row ≡ get_or items i row → r ≡ row → Ascends 0 r
row-ascends p rows items i row r same are lt is e =
    let got : slice_get rows i ≡ Some row = ap (λ l. slice_get l i) (sym same) ∙ get-at items i row lt is in
    subst (Ascends 0) (sym e) (are.row i row got).ascends
  where
    get-at : (xs : List (List (ℕ × ℕ))) (i : ℕ) (x : List (ℕ × ℕ)) → i < length xs → x ≡ get_or xs i x → slice_get xs i ≡ Some x
    get-at [] i x lt is = absurd (omega (arith, lt))
    get-at (y ∷ xs) zero x lt is = ap Some (sym is)
    get-at (y ∷ xs) (suc i) x lt is = get-at xs i x (omega (arith, lt)) is

-- the rows together
spread-at : (rows : List (List (ℕ × ℕ))) (last : TableRow) (q : ℕ) (row : List (ℕ × ℕ)) → slice_get rows q ≡ Some row → slice_get (map spread_row rows ++ last ∷ []) q ≡ Some (spread_row row)
spread-at [] last q row e = cc
spread-at (x ∷ rows) last zero row e = let same : x ≡ row = cc in ap (λ r. Some (spread_row r)) same
spread-at (x ∷ rows) last (suc q) row e = spread-at rows last q row e

last-at : (rows : List (List (ℕ × ℕ))) (last : TableRow) → slice_get (map spread_row rows ++ last ∷ []) (length rows) ≡ Some last
last-at [] last = refl
last-at (x ∷ rows) last = last-at rows last

spread-size : (rows : List (List (ℕ × ℕ))) (last : TableRow) → length (map spread_row rows ++ last ∷ []) ≡ length rows + 1
spread-size [] last = refl
spread-size (x ∷ rows) last = let e = spread-size rows last in omega (arith, e)

pub rows-made : (stays : Bool) (p : Word) (parts : List (List (ℕ × ℕ))) (last : TableRow) (rows : List TableRow) → length parts ≡ length p → AreMatchRows p parts → ((c : ℕ) → NextOfWhole stays p c (lead last.rest last.legs c))
    → rows ≡ map spread_row parts ++ last ∷ [] → ArePatternRows stays p rows
rows-made stays p parts last rows size are whole is = subst (ArePatternRows stays p) (sym is) (record {
  size = spread-size parts last ∙ ap (λ n. n + 1) size;
  part = λ q c lt.
      let g = slice_get-some parts q (omega (arith, lt, size)) in
      let r = are.row q g.0 g.1 in
      subst (IsNext (at p) q c) (sym (ap (λ o. lead_by o q c) (spread-at parts last q g.0 g.1) ∙ lead-spread g.0 0 c r.ascends)) (r.next c);
  whole = λ c. subst (NextOfWhole stays p c) (sym (ap (λ n. next (map spread_row parts ++ last ∷ []) n c) (sym size) ∙ ap (λ o. lead_by o (length parts) c) (last-at parts last))) (whole c);
})

pub rows-formed : (p : Word) (parts : List (List (ℕ × ℕ))) (last : TableRow) (rows : List TableRow) → AreMatchRows p parts → IsRow last → rows ≡ map spread_row parts ++ last ∷ [] → (s : ℕ) (row : TableRow) → slice_get rows s ≡ Some row → IsRow row
rows-formed p parts last rows are ok is s row e = by parts s (λ q r g. (are.row q r g).ascends) (subst (λ l. slice_get l s ≡ Some row) is e)
  where
    by : (parts : List (List (ℕ × ℕ))) (s : ℕ) → ((q : ℕ) (r : List (ℕ × ℕ)) → slice_get parts q ≡ Some r → Ascends 0 r) → slice_get (map spread_row parts ++ last ∷ []) s ≡ Some row → IsRow row
    by [] zero h e = let same : last ≡ row = cc in subst IsRow same ok
    by [] (suc s) h e = cc
    by (x ∷ parts) zero h e = let same : spread_row x ≡ row = cc in subst IsRow same (spread-formed x 0 (h zero x refl))
    by (x ∷ parts) (suc s) h e = by parts s (λ q r g. h (suc q) r g) e
