-- Characters of a set that are in another set once they are moved.
use Rattle.std.proofs.Common.{◌≡◌, ℕ, zero, suc, ℤ, pos, Some, None, if◌then◌else◌, ◌+◌, ◌≤◌, ◌&&◌, ◌||◌, nat_le, Bool, true, false, List, [], ◌∷◌, ◌++◌, take, drop, refl, sym, ap, ◌∙◌, arith}
use Rattle.std.specs.Option.{unwrap_or}
use Rattle.std.proofs.lemmas.Bool.{leb-true, le-leb}
use Rattle.std.proofs.lemmas.List.{take-append-drop}
use Rattle.std.proofs.lemmas.List.Folds.{list_any-append}
use Rattle.sv_word.specs.Ranges.{in_ranges, IsApartFrom}
use Rattle.sv_terms.specs.Transduction.{character}
use Rattle.pre_image.specs.Moved.{AreCharacters}
use Rattle.pre_image.specs.Spelling.{moved_to, no_character}
use Rattle.sv_word.specs.Words.{greatest_character}

pub in-top : (low : ℕ) (rs : List (ℕ × ℕ)) (c : ℕ) → IsApartFrom low rs → in_ranges rs c ≡ true → c ≤ greatest_character
in-top low [] c h e = absurd (cc)
in-top low (p ∷ ps) c h e = by (nat_le p.0 c) (nat_le c p.1) refl e (in-top (p.1 + 2) ps c h.3)
  where
    by : (a b : Bool) → nat_le c p.1 ≡ b → ((a && b) || in_ranges ps c) ≡ true → (in_ranges ps c ≡ true → c ≤ greatest_character) → c ≤ greatest_character
    by true true below f later = let le = leb-true c p.1 below in let top = h.2 in omega (arith, le, top)
    by true false below f later = later f
    by false b below f later = later f

-- the pairs of a set are characters
pub apart-characters : (low : ℕ) (rs : List (ℕ × ℕ)) → IsApartFrom low rs → AreCharacters rs
apart-characters low [] h = tt
apart-characters low (p ∷ ps) h = (h.2, apart-characters (p.1 + 2) ps h.3)

pub front-characters : (n : ℕ) (rs : List (ℕ × ℕ)) → AreCharacters rs → AreCharacters (take n rs)
front-characters zero rs h = tt
front-characters (suc n) [] h = tt
front-characters (suc n) (p ∷ ps) h = (h.0, front-characters n ps h.1)

pub rest-characters : (n : ℕ) (rs : List (ℕ × ℕ)) → AreCharacters rs → AreCharacters (drop n rs)
rest-characters zero rs h = h
rest-characters (suc n) [] h = tt
rest-characters (suc n) (p ∷ ps) h = rest-characters n ps h.1

-- a character is in one of the pairs where it is in one of the first ones or of the others
pub halves-joined : (pairs front rest first others new : List (ℕ × ℕ)) (n : ℕ) (k : ℤ) (c : ℕ) → front ≡ take n pairs → rest ≡ drop n pairs
    → in_ranges first c ≡ in_ranges front (moved_to k c) → in_ranges others c ≡ in_ranges rest (moved_to k c)
    → in_ranges new c ≡ (in_ranges first c || in_ranges others c) → in_ranges new c ≡ in_ranges pairs (moved_to k c)
halves-joined pairs front rest first others new n k c in_front in_rest of_front of_rest joins =
    joins ∙ ap (λ b. b || in_ranges others c) of_front ∙ ap (λ b. in_ranges front (moved_to k c) || b) of_rest
    ∙ sym (list_any-append (λ p. nat_le p.0 (moved_to k c) && nat_le (moved_to k c) p.1) front rest)
    ∙ ap (λ (l : List (ℕ × ℕ)). in_ranges (l ++ rest) (moved_to k c)) in_front
    ∙ ap (λ (l : List (ℕ × ℕ)). in_ranges (take n pairs ++ l) (moved_to k c)) in_rest
    ∙ ap (λ (l : List (ℕ × ℕ)). in_ranges l (moved_to k c)) (take-append-drop n pairs)

-- what a lead has in common with the characters that are moved into a set
pub moved-met : (lead step moved new : List (ℕ × ℕ)) (k : ℤ) (c : ℕ) → IsApartFrom 0 lead
    → (c ≤ greatest_character → in_ranges moved c ≡ in_ranges step (moved_to k c))
    → in_ranges new c ≡ (in_ranges lead c && in_ranges moved c)
    → in_ranges new c ≡ (in_ranges lead c && in_ranges step (moved_to k c))
moved-met lead step moved new k c apart at meets = meets ∙ by (in_ranges lead c) refl
  where
    by : (b : Bool) → in_ranges lead c ≡ b → (b && in_ranges moved c) ≡ (b && in_ranges step (moved_to k c))
    by false e = refl
    by true e = at (in-top 0 lead c apart e)

moved-none : (c : ℕ) → c ≤ greatest_character → moved_to (pos 0) c ≡ c
moved-none c h =
    let same : c + 0 ≡ c = omega arith in
    ap (λ d. unwrap_or (character (pos d)) no_character) same ∙ ap (λ b. unwrap_or (if b then Some c else None) no_character) (le-leb c greatest_character h)

-- moved by nothing
pub still-met : (lead step both : List (ℕ × ℕ)) (c : ℕ) → IsApartFrom 0 lead → in_ranges both c ≡ (in_ranges lead c && in_ranges step c) → in_ranges both c ≡ (in_ranges lead c && in_ranges step (moved_to (pos 0) c))
still-met lead step both c apart h = h ∙ by (in_ranges lead c) refl
  where
    by : (b : Bool) → in_ranges lead c ≡ b → (b && in_ranges step c) ≡ (b && in_ranges step (moved_to (pos 0) c))
    by false e = refl
    by true e = ap (in_ranges step) (sym (moved-none c (in-top 0 lead c apart e)))
