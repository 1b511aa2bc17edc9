-- The words of a chain.
use Rattle.std.proofs.Common.{◌≡◌, ℕ, zero, suc, ◌+◌, ◌<◌, ◌≤◌, ◌↔◌, ◌⊎◌, inl, inr, ⊎_elim, Bool, true, false, ◌&&◌, if◌then◌else◌, List, [], ◌∷◌, ◌++◌, length, drop, slice_get, get_or, Some, None, refl, sym, ap, ◌∙◌, subst, arith}
use Rattle.std.specs.Prelude.{nat_lt}
use Rattle.std.proofs.lemmas.Bool.Decides.{nat_tests}
use Rattle.std.proofs.lemmas.List.{append_assoc, drop_more}
use Rattle.replace_machines.proofs.RowLemmas.{less_or_not}
use Rattle.sv_word.specs.Words.{IsWord, greatest_character}
use Rattle.sv_word.specs.Ranges.{in_pair}
use Rattle.sv_terms.specs.Language.{Word}
use Rattle.machine_core.specs.declared.graph.Graph.{Graph}
use Rattle.regex_machine.specs.Laws.{drop-get}
use Rattle.part_machines.specs.declared.table.TableRow.{TableRow}
use Rattle.part_machines.specs.Chains.{AreRanges, chain_row, chain_rows, follows, ranges_of}
use Rattle.part_machines.specs.Parts.{Decides}
use Rattle.part_machines.specs.Tables.{IsOfTable, IsRow, after, lead_by, leg, next, row_of}
use Rattle.part_machines.proofs.TableLemmas.{lead-here, lead-later, table-decides}

pub ranges-formed : (w : Word) → IsWord w → AreRanges (ranges_of w)
ranges-formed [] h = tt
ranges-formed (c ∷ w) h = ((h.0, h.0), ranges-formed w h.1)

pub range-at : (ranges : List (ℕ × ℕ)) (i : ℕ) (d : ℕ × ℕ) → i < length ranges → AreRanges ranges → ((get_or ranges i d).0 ≤ greatest_character) × ((get_or ranges i d).1 ≤ greatest_character)
range-at [] i d lt h = absurd (omega (arith, lt))
range-at (r ∷ ranges) zero d lt h = h.0
range-at (r ∷ ranges) (suc i) d lt h = range-at ranges i d (omega (arith, lt)) h.1

-- the rows of one range more
pub chained-more : (longer : Bool) (lost i : ℕ) (ranges : List (ℕ × ℕ)) (old new all : List TableRow) (row : TableRow) → i < length ranges → row ≡ chain_row lost i (get_or ranges i (0, 0))
    → all ≡ old ++ chain_rows longer lost i (drop i ranges) → new ≡ old ++ row ∷ [] → all ≡ new ++ chain_rows longer lost (i + 1) (drop (i + 1) ranges)
chained-more longer lost i ranges old new all row lt is before made =
    let rest = chain_rows longer lost (i + 1) (drop (i + 1) ranges) in
    before ∙ ap (λ l. old ++ chain_rows longer lost i l) (drop_more ranges i (0, 0) lt) ∙ ap (λ (r : TableRow). old ++ r ∷ rest) (sym is) ∙ sym (append_assoc old (row ∷ []) rest) ∙ ap (λ l. l ++ rest) (sym made)

-- the rows
chain-along : (ranges : List (ℕ × ℕ)) (longer : Bool) (lost from i : ℕ) (r : ℕ × ℕ) → slice_get ranges i ≡ Some r → slice_get (chain_rows longer lost from ranges) i ≡ Some (chain_row lost (from + i) r)
chain-along [] longer lost from i r e = cc
chain-along (x ∷ ranges) longer lost from zero r e = let same : x ≡ r = cc in let n : from ≡ from + 0 = omega arith in ap Some (ap (chain_row lost from) same ∙ ap (λ k. chain_row lost k r) n)
chain-along (x ∷ ranges) longer lost from (suc i) r e = chain-along ranges longer lost (from + 1) i r e ∙ (let n : from + 1 + i ≡ from + suc i = omega arith in ap (λ k. Some (chain_row lost k r)) n)

chain-end : (ranges : List (ℕ × ℕ)) (longer : Bool) (lost from : ℕ) → slice_get (chain_rows longer lost from ranges) (length ranges) ≡ Some (row_of [] (if longer then (from + length ranges) else lost))
chain-end [] longer lost from = let n : from ≡ from + 0 = omega arith in ap (λ k. Some (row_of [] (if longer then k else lost))) n
chain-end (r ∷ ranges) longer lost from = chain-end ranges longer lost (from + 1) ∙ (let n : from + 1 + length ranges ≡ from + suc (length ranges) = omega arith in ap (λ k. Some (row_of [] (if longer then k else lost))) n)

chain-lost : (ranges : List (ℕ × ℕ)) (longer : Bool) (lost from : ℕ) → slice_get (chain_rows longer lost from ranges) (suc (length ranges)) ≡ Some (row_of [] lost)
chain-lost [] longer lost from = refl
chain-lost (r ∷ ranges) longer lost from = chain-lost ranges longer lost (from + 1)

pub chain-length : (ranges : List (ℕ × ℕ)) (longer : Bool) (lost from : ℕ) → length (chain_rows longer lost from ranges) ≡ length ranges + 2
chain-length [] longer lost from = refl
chain-length (r ∷ ranges) longer lost from = let e = chain-length ranges longer lost (from + 1) in omega (arith, e)

past : (ranges : List (ℕ × ℕ)) (longer : Bool) (lost from i : ℕ) → length ranges + 2 ≤ i → slice_get (chain_rows longer lost from ranges) i ≡ None
past [] longer lost from zero h = absurd (omega (arith, h))
past [] longer lost from (suc zero) h = absurd (omega (arith, h))
past [] longer lost from (suc (suc i)) h = refl
past (r ∷ ranges) longer lost from zero h = absurd (omega (arith, h))
past (r ∷ ranges) longer lost from (suc i) h = past ranges longer lost (from + 1) i (omega (arith, h))

pub chain-formed : (ranges : List (ℕ × ℕ)) (longer : Bool) (lost from : ℕ) → AreRanges ranges → (i : ℕ) (row : TableRow) → slice_get (chain_rows longer lost from ranges) i ≡ Some row → IsRow row
chain-formed [] longer lost from h zero row e = let same : row_of [] (if longer then from else lost) ≡ row = cc in subst IsRow same tt
chain-formed [] longer lost from h (suc zero) row e = let same : row_of [] lost ≡ row = cc in subst IsRow same tt
chain-formed [] longer lost from h (suc (suc i)) row e = cc
chain-formed (r ∷ ranges) longer lost from h zero row e =
    let same : chain_row lost from r ≡ row = cc in
    let a = h.0.0 in
    let b = h.0.1 in
    subst IsRow same (omega (arith, a), (omega (arith, b), tt))
chain-formed (r ∷ ranges) longer lost from h (suc i) row e = chain-formed ranges longer lost (from + 1) h.1 i row e

module _ (ranges : List (ℕ × ℕ)) (longer : Bool) where
  abbrev last : ℕ
  last = length ranges

  abbrev lost : ℕ
  lost = length ranges + 1

  abbrev N : ℕ → ℕ → ℕ
  N = next (chain_rows longer lost 0 ranges)

  -- where each state leads
  inside-bounds : (r : ℕ × ℕ) (c : ℕ) → in_pair r c ≡ true → (r.0 ≤ c) × (c ≤ r.1)
  inside-bounds r c h = (grind (arith, nat_tests), grind (arith, nat_tests))

  outside-bounds : (r : ℕ × ℕ) (c : ℕ) → in_pair r c ≡ false → (c < r.0) ⊎ ((r.0 ≤ c) × (r.1 + 1 ≤ c))
  outside-bounds r c h = ⊎_elim
      (λ a. inl a.0)
      (λ b. ⊎_elim
      (λ d.
      let low = b.0 in
      let high : c ≤ r.1 = (let y = d.0 in omega (arith, y)) in
      let t : in_pair r c ≡ true = grind (arith, nat_tests) in
      absurd (let z : true ≡ false = sym t ∙ h in cc))
      (λ d. inr (b.0, d.0))
      (less_or_not c (r.1 + 1)))
      (less_or_not c r.0)

  along : (s : ℕ) (r : ℕ × ℕ) (c : ℕ) → slice_get ranges s ≡ Some r → in_pair r c ≡ true → N s c ≡ suc s
  along s r c e h =
      let b = inside-bounds r c h in
      let row = chain-along ranges longer lost 0 s r e in
      let x = b.1 in
      let second = leg (r.1 + 1) (0 + s + 1) in
      let below : c < r.1 + 1 = omega (arith, x) in
      let same : 0 + s + 1 ≡ suc s = omega arith in
      ap (λ o. lead_by o s c) row ∙ lead-later lost (leg r.0 lost) (second ∷ []) c b.0 ∙ lead-here lost second [] c below ∙ same

  astray : (s : ℕ) (r : ℕ × ℕ) (c : ℕ) → slice_get ranges s ≡ Some r → in_pair r c ≡ false → N s c ≡ lost
  astray s r c e h =
      let row = chain-along ranges longer lost 0 s r e in
      let second = leg (r.1 + 1) (0 + s + 1) in
      ap (λ o. lead_by o s c) row ∙ ⊎_elim
      (λ a. lead-here lost (leg r.0 lost) (second ∷ []) c a)
      (λ b. lead-later lost (leg r.0 lost) (second ∷ []) c b.0 ∙ lead-later lost second [] c b.1)
      (outside-bounds r c h)

  behind : (c : ℕ) → N last c ≡ (if longer then last else lost)
  behind c = ap (λ o. lead_by o last c) (chain-end ranges longer lost 0) ∙ (let n : 0 + length ranges ≡ length ranges = omega arith in ap (λ k. if longer then k else lost) n)

  gone : (c : ℕ) → N lost c ≡ lost
  gone c = (let n : lost ≡ suc last = omega arith in ap (λ k. N k c) n ∙ ap (λ o. lead_by o (suc last) c) (chain-lost ranges longer lost 0))

  gone-after : (w : Word) → after N lost w ≡ lost
  gone-after [] = refl
  gone-after (c ∷ w) = ap (λ s. after N s w) (gone c) ∙ gone-after w

  behind-after : longer ≡ true → (w : Word) → after N last w ≡ last
  behind-after h [] = refl
  behind-after h (c ∷ w) = ap (λ s. after N s w) (behind c ∙ ap (λ b. if b then last else lost) h) ∙ behind-after h w

  not-last : lost ≡ last → ⊥
  not-last e = omega (arith, e)

  end-of : (s : ℕ) → s ≤ last → drop s ranges ≡ [] → last ≡ s
  end-of s h e = at ranges s h e
    where
      at : (xs : List (ℕ × ℕ)) (s : ℕ) → s ≤ length xs → drop s xs ≡ [] → length xs ≡ s
      at [] zero h e = refl
      at [] (suc s) h e = absurd (omega (arith, h))
      at (x ∷ xs) zero h e = cc
      at (x ∷ xs) (suc s) h e = ap suc (at xs s (omega (arith, h)) e)

  in-list : (s : ℕ) (r : ℕ × ℕ) → slice_get ranges s ≡ Some r → s < last
  in-list s r e = at ranges s e
    where
      at : (xs : List (ℕ × ℕ)) (s : ℕ) → slice_get xs s ≡ Some r → s < length xs
      at [] s e = cc
      at (x ∷ xs) zero e = omega arith
      at (x ∷ xs) (suc s) e = let h = at xs s e in omega (arith, h)

  tells-behind : (b : Bool) → longer ≡ b → (w : Word) → (after N last w ≡ last) ↔ (follows longer [] w ≡ true)
  tells-behind true h [] = (λ e. refl, λ e. refl)
  tells-behind true h (c ∷ w) = (λ e. h, λ e. behind-after h (c ∷ w))
  tells-behind false h [] = (λ e. refl, λ e. refl)
  tells-behind false h (c ∷ w) = (
    λ e. let f = ap (λ s. after N s w) (behind c ∙ ap (λ b. if b then last else lost) h) ∙ gone-after w in absurd (not-last (sym f ∙ e)),
    λ e. cc,
  )

  tells : (w : Word) (left : List (ℕ × ℕ)) (s : ℕ) → drop s ranges ≡ left → s ≤ last → (after N s w ≡ last) ↔ (follows longer left w ≡ true)
  tells w [] s d h = subst (λ k. (after N k w ≡ last) ↔ (follows longer [] w ≡ true)) (end-of s h d) (tells-behind longer refl w)
  tells [] (r ∷ left) s d h =
      let e = (drop-get ranges s r left d).0 in
      let lt = in-list s r e in
      (λ f. absurd (omega (arith, f, lt)), λ f. cc)
  tells (c ∷ w) (r ∷ left) s d h = by (in_pair r c) refl (tells w left (suc s) at.1 (omega (arith, lt)))
    where
      at : (slice_get ranges s ≡ Some r) × (drop (suc s) ranges ≡ left)
      at = drop-get ranges s r left d

      lt : s < last
      lt = in-list s r at.0

      by : (b : Bool) → in_pair r c ≡ b → (after N (suc s) w ≡ last) ↔ (follows longer left w ≡ true) → (after N s (c ∷ w) ≡ last) ↔ (follows longer (r ∷ left) (c ∷ w) ≡ true)
      by true e rest =
          let f = ap (λ t. after N t w) (along s r c at.0 e) in
          let g : (in_pair r c && follows longer left w) ≡ follows longer left w = ap (λ b. b && follows longer left w) e in
          (λ x. g ∙ rest.0 (sym f ∙ x), λ x. f ∙ rest.1 (sym g ∙ x))
      by false e rest =
          let f = ap (λ t. after N t w) (astray s r c at.0 e) ∙ gone-after w in
          let g : (in_pair r c && follows longer left w) ≡ false = ap (λ b. b && follows longer left w) e in
          (λ x. absurd (not-last (sym f ∙ x)), λ x. cc)

  -- no state is left
  get-in : (xs : List (ℕ × ℕ)) (s : ℕ) → s < length xs → (r : ℕ × ℕ) × (slice_get xs s ≡ Some r)
  get-in [] s h = absurd (omega (arith, h))
  get-in (x ∷ xs) zero h = (x, refl)
  get-in (x ∷ xs) (suc s) h = get-in xs s (omega (arith, h))

  stays : (s c : ℕ) → s < lost + 1 → N s c < lost + 1
  stays s c h = by (less_or_not s last) (less_or_not last s)
    where
      by_range : (r : ℕ × ℕ) → slice_get ranges s ≡ Some r → s < last → (b : Bool) → in_pair r c ≡ b → N s c < lost + 1
      by_range r e lt true t = let n = along s r c e t in omega (arith, n, lt)
      by_range r e lt false t = let n = astray s r c e t in omega (arith, n)

      by_longer : (b : Bool) → longer ≡ b → N last c < lost + 1
      by_longer true t = let n = behind c ∙ ap (λ b. if b then last else lost) t in omega (arith, n)
      by_longer false t = let n = behind c ∙ ap (λ b. if b then last else lost) t in omega (arith, n)

      by : ((s < last) × (nat_lt s last ≡ true)) ⊎ ((last ≤ s) × (nat_lt s last ≡ false)) → ((last < s) × (nat_lt last s ≡ true)) ⊎ ((s ≤ last) × (nat_lt last s ≡ false)) → N s c < lost + 1
      by (inl a) b = let g = get-in ranges s a.0 in by_range g.0 g.1 a.0 (in_pair g.0 c) refl
      by (inr a) (inl b) = let x = b.0 in let e : lost ≡ s = omega (arith, x, h) in let n = ap (λ k. N k c) (sym e) ∙ gone c in omega (arith, n)
      by (inr a) (inr b) = let x = a.0 in let y = b.0 in let e : last ≡ s = omega (arith, x, y) in subst (λ k. N k c < lost + 1) e (by_longer longer refl)

  stays-after : (w : Word) (s : ℕ) → s < lost + 1 → after N s w < lost + 1
  stays-after [] s h = h
  stays-after (c ∷ w) s h = stays-after w (N s c) (stays s c h)

  beyond : (s c : ℕ) → lost ≤ s → s ≤ N s c
  beyond s c h = ⊎_elim
      (λ a. let x = a.0 in let e : lost ≡ s = omega (arith, x, h) in let n = ap (λ k. N k c) (sym e) ∙ gone c in omega (arith, n, e))
      (λ b. let x = b.0 in let n = ap (λ o. lead_by o s c) (past ranges longer lost 0 s (omega (arith, x))) in omega (arith, n))
      (less_or_not s (lost + 1))

-- the machine of a chain
pub chain-decides : (ranges : List (ℕ × ℕ)) (longer holds : Bool) (rows : List TableRow) (states : ℕ) (m : Graph) → rows ≡ chain_rows longer (length ranges + 1) 0 ranges → states ≡ length ranges + (if holds then 1 else 2)
    → m.states ≡ states → IsOfTable (next rows) (length ranges) holds m → Decides (follows longer ranges) holds (length ranges + (if holds then 1 else 2)) m
chain-decides ranges longer holds rows states m made size is table = by holds refl
  where
    t : IsOfTable (next (chain_rows longer (length ranges + 1) 0 ranges)) (length ranges) holds m
    t = subst (λ l. IsOfTable (next l) (length ranges) holds m) made table

    count : m.states ≡ length ranges + (if holds then 1 else 2)
    count = is ∙ size

    enough : (b : Bool) → holds ≡ b → (length ranges + 1 ≤ m.states) × (b ≡ false → m.states ≡ length ranges + 2)
    enough true e = (let n = count ∙ ap (λ b. length ranges + (if b then 1 else 2)) e in (omega (arith, n), λ f. cc))
    enough false e = (let n = count ∙ ap (λ b. length ranges + (if b then 1 else 2)) e in (omega (arith, n), λ f. n))

    by : (b : Bool) → holds ≡ b → Decides (follows longer ranges) holds (length ranges + (if holds then 1 else 2)) m
    by b e =
        let n = enough b e in
        let low = n.0 in
        table-decides holds (next (chain_rows longer (length ranges + 1) 0 ranges)) (length ranges) (length ranges + (if holds then 1 else 2)) (follows longer ranges) m t
        (λ s c h. let g = beyond ranges longer s c (omega (arith, h, low)) in omega (arith, h, g))
        (λ w. tells ranges longer w ranges 0 refl (omega arith))
        (λ f. omega (arith, low))
        (λ f w past. let g = stays-after ranges longer w 0 (omega arith) in let k = n.1 (sym e ∙ f) in omega (arith, g, k))
        (let k = count in omega (arith, k))
