-- Lists of pairs that are in order and apart from one another.
use Rattle.std.proofs.Common.{◌≡◌, ℕ, ◌+◌, ◌<◌, ◌≤◌, ◌||◌, ◌&&◌, Bool, true, false, nat_le, List, [], ◌∷◌, ◌++◌, inl, inr, refl, ap, sym, ◌∙◌, subst, arith}
use Rattle.std.proofs.lemmas.Bool.Decides.{nat_tests}
use Rattle.std.proofs.lemmas.Bool.{false≢true, cases_lt}
use Rattle.std.proofs.lemmas.List.Folds.{list_any-append}
use Rattle.std.specs.Prelude.{Some, slice_get}
use Rattle.sv_list.specs.Bools.{or-false}
use Rattle.sv_word.specs.Ranges.{in_ranges, in_pair, IsLeast, IsApartFrom, RangesEndBy}
use Rattle.sv_word.specs.Words.{greatest_character}

-- as `IsApartFrom`, and all pairs stay below `high` and apart from it
abbrev pub IsApartBetween : ℕ → List (ℕ × ℕ) → ℕ → Type 0
IsApartBetween low [] high = low ≤ high
IsApartBetween low (p ∷ ps) high = (low ≤ p.0) × (p.0 ≤ p.1) × (p.1 ≤ greatest_character) × IsApartBetween (p.1 + 2) ps high

pub below_apart : (low : ℕ) (ps : List (ℕ × ℕ)) (c : ℕ) → IsApartFrom low ps → c < low → in_ranges ps c ≡ false
below_apart low [] c h lt = refl
below_apart low (p ∷ ps) c h lt =
    let rest = below_apart (p.1 + 2) ps c h.3 (let a = h.0 in let b = h.1 in omega arith) in
    let first : nat_le p.0 c ≡ false = (let a = h.0 in grind (arith, nat_tests)) in
    rw (first, rest) refl

pub apart-less : (low less : ℕ) (ps : List (ℕ × ℕ)) → less ≤ low → IsApartFrom low ps → IsApartFrom less ps
apart-less low less [] le h = tt
apart-less low less (p ∷ ps) le h = (let a = h.0 in omega arith, h.1, h.2, h.3)

pub apart-ends : (low : ℕ) (ps : List (ℕ × ℕ)) → IsApartFrom low ps → RangesEndBy greatest_character ps
apart-ends low [] h = tt
apart-ends low (p ∷ ps) h = (h.2, apart-ends (p.1 + 2) ps h.3)

pub ranges-push : (ps : List (ℕ × ℕ)) (p : ℕ × ℕ) (c : ℕ) → in_ranges (ps ++ p ∷ []) c ≡ (in_ranges ps c || in_pair p c)
ranges-push ps p c = list_any-append _ ps _ ∙ ap (λ b. in_ranges ps c || b) (or-false (in_pair p c))

pub between-more : (low : ℕ) (ps : List (ℕ × ℕ)) (h k : ℕ) → h ≤ k → IsApartBetween low ps h → IsApartBetween low ps k
between-more low [] h k le a = omega arith
between-more low (p ∷ ps) h k le a = (a.0, a.1, a.2, between-more (p.1 + 2) ps h k le a.3)

pub between-push : (low : ℕ) (ps : List (ℕ × ℕ)) (h x y : ℕ) → h ≤ x → x ≤ y → y ≤ greatest_character → IsApartBetween low ps h → IsApartBetween low (ps ++ (x, y) ∷ []) (y + 2)
between-push low [] h x y le xy top a = (omega arith, xy, top, omega arith)
between-push low (p ∷ ps) h x y le xy top a = (a.0, a.1, a.2, between-push (p.1 + 2) ps h x y le xy top a.3)

pub between-apart : (low : ℕ) (ps : List (ℕ × ℕ)) (h : ℕ) → IsApartBetween low ps h → IsApartFrom low ps
between-apart low [] h a = tt
between-apart low (p ∷ ps) h a = (a.0, a.1, a.2, between-apart (p.1 + 2) ps h a.3)

-- a character between the ends of a pair lies in it
pub within : (a b c : ℕ) → a ≤ c → c ≤ b → (nat_le a c ≡ true) × (nat_le c b ≡ true)
within a b c l h = (grind (arith, nat_tests), grind (arith, nat_tests))

pub first-in : (p : ℕ × ℕ) (ps : List (ℕ × ℕ)) (c : ℕ) → p.0 ≤ c → c ≤ p.1 → in_ranges (p ∷ ps) c ≡ true
first-in p ps c l h = let w = within p.0 p.1 c l h in rw (w.0, w.1) refl

-- behind the first pair only the others count
pub first-past : (p : ℕ × ℕ) (ps : List (ℕ × ℕ)) (c : ℕ) → p.1 < c → in_ranges (p ∷ ps) c ≡ in_ranges ps c
first-past p ps c h = past p.0 p.1 c (in_ranges ps c) h
  where
    past : (a b c : ℕ) (r : Bool) → b < c → ((nat_le a c && nat_le c b) || r) ≡ r
    past a b c r h = grind (arith, nat_tests)

pub apart-least : (low : ℕ) (p : ℕ × ℕ) (ps : List (ℕ × ℕ)) → IsApartFrom low (p ∷ ps) → IsLeast (p ∷ ps) p.0
apart-least low p ps h = (
  first-in p ps p.0 (omega arith) h.1,
  λ d in'. elim (cases_lt d p.0) [ inl lt ↦ absurd (let none = below_apart p.0 (p ∷ ps) d (omega arith, h.1, h.2, h.3) lt in false≢true (sym none ∙ in')) | inr le ↦ le ],
)

-- the first pair has the least character
pub least-at : (ps : List (ℕ × ℕ)) (p : ℕ × ℕ) → IsApartFrom 0 ps → Some p ≡ slice_get ps 0 → IsLeast ps p.0
least-at [] p h e = absurd (cc)
least-at (q ∷ ps) p h e = let same : q ≡ p = cc in subst (λ x. IsLeast (q ∷ ps) x.0) same (apart-least 0 q ps h)
