-- The characters cut at borders.
use Rattle.std.proofs.Common.{◌≡◌, ◌≢◌, ℕ, zero, suc, ◌+◌, ◌-◌, ◌<◌, ◌≤◌, ◌&&◌, true, false, nat_le, nat_lt, List, [], ◌∷◌, ◌++◌, ◌⊎◌, inl, inr, length, get_or, refl, sym, ◌∙◌, subst, arith}
use Rattle.std.proofs.lemmas.Bool.{false≢true, cases_lt}
use Rattle.std.proofs.lemmas.Bool.Decides.{nat_tests}
use Rattle.std.proofs.lemmas.List.{get_or_default}
use Rattle.std.proofs.lemmas.List.Elements.{Contains-append_cases, Contains-append_left, Contains-append_right}
use Rattle.std.proofs.lemmas.List.Sorted.{Contains-permutation, IsPermutation-sym}
use Rattle.std.specs.List.{All, AllPairs, Any, Contains, flat_map}
use Rattle.std.specs.List.Sorted.{IsNonDecreasingBy, IsPermutation}
use Rattle.std.specs.Prelude.{IsTrue}
use Rattle.sv_list.specs.Lists.{Contains-cases, Any-here, Any-there}
use Rattle.sv_word.proofs.Apart.{below_apart, first-in, first-past}
use Rattle.sv_word.specs.Cuts.{IsHeld, AreDisjoint, IsUniformOn, IsParted, IsPaired, borders_of}
use Rattle.sv_word.specs.Ranges.{in_ranges, IsApartFrom, IsInhabited}
use Rattle.sv_word.specs.Words.{greatest_character}

any-weaker : {X : Type 0} (P Q : X → Type 0) (xs : List X) → Any P xs → ((x : X) → Contains xs x → P x → Q x) → Any Q xs
any-weaker P Q xs (k, y, lt, e, h) f = (k, y, lt, e, f y (k, lt, e) h)

-- the set from `low` on and before `next`, whose end is a border, and within which there is none
pub record IsPiece (borders : List ℕ) (low next : ℕ) (piece : List (ℕ × ℕ)) : Type 0 where
  pub some : low < next
  pub exact : (c : ℕ) → in_ranges piece c ≡ (nat_le low c && nat_lt c next)
  pub inhabited : IsInhabited piece
  pub uncut : (b : ℕ) → Contains borders b → (b ≤ low) ⊎ (next ≤ b)
  pub border : Contains borders next

piece-in : (borders : List ℕ) (low next : ℕ) (piece : List (ℕ × ℕ)) (c : ℕ) → IsPiece borders low next piece → low ≤ c → c < next → in_ranges piece c ≡ true
piece-in borders low next piece c h l k = h.exact c ∙ test low next c l k
  where
    test : (low next c : ℕ) → low ≤ c → c < next → (nat_le low c && nat_lt c next) ≡ true
    test low next c l k = grind (arith, nat_tests)

in-piece : (borders : List ℕ) (low next : ℕ) (piece : List (ℕ × ℕ)) (c : ℕ) → IsPiece borders low next piece → in_ranges piece c ≡ true → (low ≤ c) × (c < next)
in-piece borders low next piece c h e = test low next c (sym (h.exact c) ∙ e)
  where
    test : (low next c : ℕ) → (nat_le low c && nat_lt c next) ≡ true → (low ≤ c) × (c < next)
    test low next c e = (grind (arith, nat_tests), grind (arith, nat_tests))

-- pieces one after another, from `low` on and before `high`
abbrev pub Tiles : List ℕ → ℕ → List (List (ℕ × ℕ)) → ℕ → Type 0
Tiles borders low [] high = low ≡ high
Tiles borders low (p ∷ ps) high = (next : ℕ) × IsPiece borders low next p × Tiles borders next ps high

tiles-push : (borders : List ℕ) (low : ℕ) (ps : List (List (ℕ × ℕ))) (mid high : ℕ) (p : List (ℕ × ℕ)) → Tiles borders low ps mid → IsPiece borders mid high p → Tiles borders low (ps ++ p ∷ []) high
tiles-push borders low [] mid high p t h = (high, subst (λ x. IsPiece borders x high p) (sym t) h, refl)
tiles-push borders low (q ∷ ps) mid high p (next, k, t) h = (next, k, tiles-push borders next ps mid high p t h)

-- the piece at a place
record IsPieceFrom (borders : List ℕ) (low : ℕ) (piece : List (ℕ × ℕ)) : Type 0 where
  begins : ℕ
  stops : ℕ
  above : low ≤ begins
  is : IsPiece borders begins stops piece

tiles-at : (borders : List ℕ) (low : ℕ) (ps : List (List (ℕ × ℕ))) (high : ℕ) → Tiles borders low ps high → (j : ℕ) (d : List (ℕ × ℕ)) → j < length ps → IsPieceFrom borders low (get_or ps j d)
tiles-at borders low [] high t j d lt = absurd (omega arith)
tiles-at borders low (p ∷ ps) high (next, h, t) zero d lt = record { begins = low; stops = next; above = omega arith; is = h }
tiles-at borders low (p ∷ ps) high (next, h, t) (suc j) d lt =
    let rest = tiles-at borders next ps high t j d (omega arith) in
    record { begins = rest.begins; stops = rest.stops; above = let a = h.some in let b = rest.above in omega arith; is = rest.is }

pub tiles-inhabited : (borders : List ℕ) (low : ℕ) (ps : List (List (ℕ × ℕ))) (high : ℕ) → Tiles borders low ps high → All IsInhabited ps
tiles-inhabited borders low ps high t k d lt = (tiles-at borders low ps high t k d lt).is.inhabited

pub tiles-held : (borders : List ℕ) (low : ℕ) (ps : List (List (ℕ × ℕ))) (high : ℕ) → Tiles borders low ps high → (c : ℕ) → low ≤ c → c < high → IsHeld ps c
tiles-held borders low [] high t c l h = absurd (omega arith)
tiles-held borders low (p ∷ ps) high (next, k, t) c l h =
    elim (cases_lt c next) [
      | inl lt ↦ Any-here (λ s. IsTrue (in_ranges s c)) p ps (piece-in borders low next p c k l lt)
      | inr le ↦ Any-there (λ s. IsTrue (in_ranges s c)) p ps (tiles-held borders next ps high t c le h)
    ]

pub tiles-disjoint : (borders : List ℕ) (low : ℕ) (ps : List (List (ℕ × ℕ))) (high : ℕ) → Tiles borders low ps high → AllPairs AreDisjoint ps
tiles-disjoint borders low [] high t i j d lt h = absurd (omega arith)
tiles-disjoint borders low (p ∷ ps) high (next, k, t) zero zero d lt h = absurd (omega arith)
tiles-disjoint borders low (p ∷ ps) high (next, k, t) zero (suc j) d lt h = λ c.
    let q = tiles-at borders next ps high t j d (omega arith) in
    rw (k.exact c, q.is.exact c) (test low next q.begins q.stops c q.above)
  where
    test : (a b x y c : ℕ) → b ≤ x → ((nat_le a c && nat_lt c b) && (nat_le x c && nat_lt c y)) ≡ false
    test a b x y c h = grind (arith, nat_tests)
tiles-disjoint borders low (p ∷ ps) high (next, k, t) (suc i) zero d lt h = absurd (omega arith)
tiles-disjoint borders low (p ∷ ps) high (next, k, t) (suc i) (suc j) d lt h = tiles-disjoint borders next ps high t i j d (omega arith) (omega arith)

-- a set none of whose borders lies within the interval
uniform-set : (s : List (ℕ × ℕ)) (low next : ℕ) → ((b : ℕ) → Contains (borders_of s) b → (b ≤ low) ⊎ (next ≤ b))
    → (c d : ℕ) → low ≤ c → c < next → low ≤ d → d < next → in_ranges s c ≡ in_ranges s d
uniform-set [] low next uncut c d lc hc ld hd = refl
uniform-set (p ∷ ps) low next uncut c d lc hc ld hd =
    let rest = uniform-set ps low next (λ b (k, lt, e). uncut b (suc (suc k), omega arith, e)) c d lc hc ld hd in
    let first = pair-uniform p.0 p.1 (uncut p.0 (0, omega arith, refl)) (uncut (p.1 + 1) (1, omega arith, refl)) in
    rw (first, rest) refl
  where
    pair-uniform : (a b : ℕ) → (a ≤ low) ⊎ (next ≤ a) → (b + 1 ≤ low) ⊎ (next ≤ b + 1) → (nat_le a c && nat_le c b) ≡ (nat_le a d && nat_le d b)
    pair-uniform a b (inl x) (inl y) = grind (arith, nat_tests)
    pair-uniform a b (inl x) (inr y) = grind (arith, nat_tests)
    pair-uniform a b (inr x) (inl y) = grind (arith, nat_tests)
    pair-uniform a b (inr x) (inr y) = grind (arith, nat_tests)

flat-contains : (sets : List (List (ℕ × ℕ))) (m : ℕ) (d : List (ℕ × ℕ)) (b : ℕ) → m < length sets → Contains (borders_of (get_or sets m d)) b → Contains (flat_map borders_of sets) b
flat-contains [] m d b lt h = absurd (omega arith)
flat-contains (s ∷ sets) zero d b lt h = Contains-append_left (borders_of s) (flat_map borders_of sets) b h
flat-contains (s ∷ sets) (suc m) d b lt h = Contains-append_right (borders_of s) (flat_map borders_of sets) b (flat-contains sets m d b (omega arith) h)

contains-flat : (sets : List (List (ℕ × ℕ))) (b : ℕ) → Contains (flat_map borders_of sets) b → Any (λ s. Contains (borders_of s) b) sets
contains-flat [] b (k, lt, e) = absurd (omega arith)
contains-flat (s ∷ sets) b h =
    elim (Contains-append_cases (borders_of s) (flat_map borders_of sets) b h) [
      | inl here ↦ Any-here (λ s. Contains (borders_of s) b) s sets here
      | inr later ↦ Any-there (λ s. Contains (borders_of s) b) s sets (contains-flat sets b later)
    ]

-- the borders, in order, of sets that are apart
pub record AreBorders (sets : List (List (ℕ × ℕ))) (borders : List ℕ) : Type 0 where
  pub same : IsPermutation (flat_map borders_of sets ++ 0x30000 ∷ []) borders
  pub top : All (λ b. b ≤ 0x30000) borders
  pub order : IsNonDecreasingBy (λ b. b) borders
  pub apart : All (IsApartFrom 0) sets

pub tiles-uniform : (sets : List (List (ℕ × ℕ))) (borders : List ℕ) (low : ℕ) (ps : List (List (ℕ × ℕ))) (high : ℕ) → AreBorders sets borders → Tiles borders low ps high
    → All (λ p. All (IsUniformOn p) sets) ps
tiles-uniform sets borders low ps high a t k d lt m e lm x y in-x in-y =
    let p = tiles-at borders low ps high t k d lt in
    let inside-x = in-piece borders p.begins p.stops (get_or ps k d) x p.is in-x in
    let inside-y = in-piece borders p.begins p.stops (get_or ps k d) y p.is in-y in
    uniform-set (get_or sets m e) p.begins p.stops
    (λ b h. p.is.uncut b (Contains-permutation _ borders b a.same (Contains-append_left (flat_map borders_of sets) (0x30000 ∷ []) b (flat-contains sets m e b lm h))))
    x y inside-x.0 inside-x.1 inside-y.0 inside-y.1

borders-above : (low : ℕ) (s : List (ℕ × ℕ)) (b : ℕ) → IsApartFrom low s → Contains (borders_of s) b → low ≤ b
borders-above low [] b a (k, lt, e) = absurd (omega arith)
borders-above low (p ∷ ps) b a (zero, lt, e) = let x = a.0 in omega arith
borders-above low (p ∷ ps) b a (suc zero, lt, e) = let x = a.0 in let y = a.1 in omega arith
borders-above low (p ∷ ps) b a (suc (suc k), lt, e) = let rest = borders-above (p.1 + 2) ps b a.3 (k, omega arith, e) in let x = a.0 in let y = a.1 in omega arith

-- a set has one of two neighbours without the other where a border lies between them
parted-set : (low : ℕ) (s : List (ℕ × ℕ)) (c : ℕ) → IsApartFrom low s → Contains (borders_of s) (c + 1) → in_ranges s c ≡ in_ranges s (c + 1) → ⊥
parted-set low [] c a (k, lt, e) same = absurd (omega arith)
parted-set low (p ∷ ps) c a (zero, lt, e) same =
    false≢true (sym (below_apart p.0 (p ∷ ps) c (omega arith, a.1, a.2, a.3) (omega arith)) ∙ same ∙ first-in p ps (c + 1) (omega arith) (let x = a.1 in omega arith))
parted-set low (p ∷ ps) c a (suc zero, lt, e) same =
    let none = first-past p ps (c + 1) (omega arith) ∙ below_apart (p.1 + 2) ps (c + 1) a.3 (omega arith) in
    false≢true (sym none ∙ sym same ∙ first-in p ps c (let x = a.1 in omega arith) (omega arith))
parted-set low (p ∷ ps) c a (suc (suc k), lt, e) same =
    let above = borders-above (p.1 + 2) ps (c + 1) a.3 (k, omega arith, e) in
    parted-set (p.1 + 2) ps c a.3 (k, omega arith, e) (sym (first-past p ps c (omega arith)) ∙ same ∙ first-past p ps (c + 1) (omega arith))

tiles-paired : (borders : List ℕ) (low : ℕ) (ps : List (List (ℕ × ℕ))) (high : ℕ) → Tiles borders low ps high → (c : ℕ) → low ≤ c → c + 1 < high → IsPaired ps c ⊎ Contains borders (c + 1)
tiles-paired borders low [] high t c l h = absurd (omega arith)
tiles-paired borders low (p ∷ ps) high (next, k, t) c l h =
    elim (cases_lt c next) [
      | inl lt ↦ elim (cases_lt (c + 1) next) [
        | inl more ↦ inl (Any-here (λ s. IsTrue (in_ranges s c && in_ranges s (c + 1))) p ps
            (rw (piece-in borders low next p c k l lt, piece-in borders low next p (c + 1) k (omega arith) more) refl))
        | inr le ↦ (let same : next ≡ c + 1 = omega arith in inr (subst (Contains borders) same k.border))
      ]
      | inr le ↦ elim (tiles-paired borders next ps high t c le h) [
        | inl found ↦ inl (Any-there (λ s. IsTrue (in_ranges s c && in_ranges s (c + 1))) p ps found)
        | inr border ↦ inr border
      ]
    ]

pub tiles-coarse : (sets : List (List (ℕ × ℕ))) (borders : List ℕ) (ps : List (List (ℕ × ℕ))) → AreBorders sets borders → Tiles borders 0 ps 0x30000
    → (c : ℕ) → c < greatest_character → IsPaired ps c ⊎ IsParted sets c
tiles-coarse sets borders ps a t c lt =
    elim (tiles-paired borders 0 ps 0x30000 t c (omega arith) (omega arith)) [
      | inl found ↦ inl found
      | inr border ↦ elim (Contains-append_cases (flat_map borders_of sets) (0x30000 ∷ []) (c + 1) (Contains-permutation borders _ (c + 1) (IsPermutation-sym _ borders a.same) border)) [
        | inl within ↦ inr (any-weaker (λ s. Contains (borders_of s) (c + 1)) (λ s. in_ranges s c ≢ in_ranges s (c + 1)) sets (contains-flat sets (c + 1) within)
            (λ s (k, lk, e) h. parted-set 0 s c (subst (IsApartFrom 0) e (a.apart k s lk)) h))
        | inr end ↦ elim (Contains-cases 0x30000 [] (c + 1) end) [ inl e ↦ absurd (omega arith) | inr (k, lk, e) ↦ absurd (omega arith) ]
      ]
    ]

-- the first `at` borders are passed, and the characters before `from` are cut
pub record IsCutting (borders : List ℕ) (at from : ℕ) (ps : List (List (ℕ × ℕ))) : Type 0 where
  pub tiles : Tiles borders 0 ps from
  pub passed : (k d : ℕ) → k < at → k < length borders → get_or borders k d ≤ from
  pub top : from ≤ 0x30000

module _ (sets : List (List (ℕ × ℕ))) (borders : List ℕ) (a : AreBorders sets borders) (at from : ℕ) (ps : List (List (ℕ × ℕ))) (m : IsCutting borders at from ps) (room : at < length borders) where
  -- the border at hand
  abbrev border : ℕ
  border = get_or borders at 0

  passed-more : (high : ℕ) → from ≤ high → border ≤ high → (k d : ℕ) → k < at + 1 → k < length borders → get_or borders k d ≤ high
  passed-more high l h k d lt room' =
      elim (cases_lt k at) [
        | inl before ↦ (let p = m.passed k d before room' in omega arith)
        | inr le ↦ (let same : k ≡ at = omega arith in let e = a.order k at d (omega arith) room in let here : get_or borders at d ≡ border = get_or_default borders at d 0 room in omega arith)
      ]

  uncut : (b : ℕ) → Contains borders b → (b ≤ from) ⊎ (border ≤ b)
  uncut b (k, lt, e) =
      elim (cases_lt k at) [
        | inl before ↦ inl (let p = m.passed k b before lt in omega arith)
        | inr le ↦ inr (let up = a.order at k 0 le lt in let same = get_or_default borders k b 0 lt in omega arith)
      ]

  pub border-top : border ≤ 0x30000
  border-top = a.top at 0 room

  pub cutting-skip : border ≤ from → IsCutting borders (at + 1) from ps
  cutting-skip le = record { tiles = m.tiles; passed = passed-more from (omega arith) le; top = m.top }

  pub cutting-cut : (piece : List (ℕ × ℕ)) → from < border → IsInhabited piece → ((c : ℕ) → in_ranges piece c ≡ (nat_le from c && nat_le c (border - 1)))
      → IsCutting borders (at + 1) border (ps ++ piece ∷ [])
  cutting-cut piece lt inhabited exact = record {
    tiles = tiles-push borders 0 ps from border piece m.tiles (record {
      some = lt;
      exact = λ c. exact c ∙ last from border c lt;
      inhabited = inhabited;
      uncut = uncut;
      border = (at, room, get_or_default borders at border 0 room);
    });
    passed = passed-more border (omega arith) (omega arith);
    top = border-top;
  }
    where
      last : (from border c : ℕ) → from < border → (nat_le from c && nat_le c (border - 1)) ≡ (nat_le from c && nat_lt c border)
      last from border c lt = grind (arith, nat_tests)

pub cutting-end : (sets : List (List (ℕ × ℕ))) (borders : List ℕ) → AreBorders sets borders → (at from : ℕ) (ps : List (List (ℕ × ℕ))) → IsCutting borders at from ps → length borders ≤ at
    → Tiles borders 0 ps 0x30000
cutting-end sets borders a at from ps m le =
    let last = Contains-permutation _ borders 0x30000 a.same (Contains-append_right (flat_map borders_of sets) (0x30000 ∷ []) 0x30000 (0, omega arith, refl)) in
    let passed = m.passed last.0 0x30000 (let l = last.1 in omega arith) last.1 in
    let same : from ≡ 0x30000 = (let e = last.2 in let t = m.top in omega arith) in
    subst (Tiles borders 0 ps) same m.tiles

-- what the borders of sets are made of
ends-in : (low : ℕ) (s : List (ℕ × ℕ)) → IsApartFrom low s → (b : ℕ) → Contains (borders_of s) b → b ≤ 0x30000
ends-in low [] a b (k, lt, e) = absurd (omega arith)
ends-in low (p ∷ ps) a b (zero, lt, e) = let x = a.1 in let y = a.2 in omega arith
ends-in low (p ∷ ps) a b (suc zero, lt, e) = let y = a.2 in omega arith
ends-in low (p ∷ ps) a b (suc (suc k), lt, e) = ends-in (p.1 + 2) ps a.3 b (k, omega arith, e)

pub borders-top : (sets : List (List (ℕ × ℕ))) (borders : List ℕ) → All (IsApartFrom 0) sets → IsPermutation (flat_map borders_of sets ++ 0x30000 ∷ []) borders → All (λ b. b ≤ 0x30000) borders
borders-top sets borders apart same k d lt =
    let b = get_or borders k d in
    let member : Contains borders b = (k, lt, get_or_default borders k b d lt) in
    elim (Contains-append_cases (flat_map borders_of sets) (0x30000 ∷ []) b (Contains-permutation borders _ b (IsPermutation-sym _ borders same) member)) [
      | inl within ↦ (let found = contains-flat sets b within in ends-in 0 found.1 (subst (IsApartFrom 0) found.3 (apart found.0 found.1 found.2)) b found.4)
      | inr end ↦ elim (Contains-cases 0x30000 [] b end) [ inl e ↦ omega arith | inr (j, lj, e) ↦ absurd (omega arith) ]
    ]
