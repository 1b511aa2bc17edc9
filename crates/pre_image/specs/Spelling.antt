-- What an edge of a transducer writes, told item by item.
use Rattle.std.specs.Prelude.{◌≡◌, ℕ, ◌+◌, ℤ, pos, ◌+ℤ◌, ◌≤◌, List, [], ◌∷◌, ◌++◌, length, Option, Some, None, Contains}
use Rattle.std.specs.Option.{option_map, unwrap_or}
use Rattle.std.proofs.Common.{refl, sym, ap, ◌∙◌, arith}
use Rattle.std.proofs.lemmas.List.{length-append}
use Rattle.std.proofs.lemmas.Option.{same_Some}
use Rattle.sv_word.specs.Words.{IsWord, greatest_character}
use Rattle.sv_terms.specs.Language.{Word}
use Rattle.sv_terms.specs.Transduction.{character, item_at, then_word, written_at}
use Rattle.sv_terms.specs.TransductionLaws.{then_some}
use Rattle.sv_terms.specs.TransducerSizes.{items_size}
use Rattle.sv_terms.specs.declared.transducer.Item.{Item}
use Rattle.sv_terms.specs.declared.transducer.Item.TheVariants as item
use Rattle.sv_terms.specs.declared.transducer.TransEdge.{TransEdge}
use Rattle.sv_terms.specs.declared.transducer.Transducer.{Transducer}

-- a number that is no character
abbrev pub no_character : ℕ
no_character = greatest_character + 1

-- the character moved by a number, and a number that is no character where that leaves the characters
abbrev pub moved_to : ℤ → ℕ → ℕ
moved_to k c = unwrap_or (character (pos c +ℤ k)) no_character

-- what the items write at a character, each by itself: where this is a word they write it, and else nothing
abbrev pub spelling : ℕ → List Item → List ℕ
spelling c [] = []
spelling c (item.Text w ∷ is) = w ++ spelling c is
spelling c (item.Shift k ∷ is) = moved_to k c ∷ spelling c is

-- the edge leaves the state s and reads c
abbrev pub Takes : Transducer → ℕ → ℕ → TransEdge → Type 0
Takes t s c e = Contains t.edges e × (e.from ≡ s) × (e.lo ≤ c) × (c ≤ e.hi)

-- whatever the character is, the items spell the same number of characters
pub spelling-length : (c : ℕ) (is : List Item) → length (spelling c is) ≡ items_size is
spelling-length c [] = refl
spelling-length c (item.Text w ∷ is) = let e = length-append w (spelling c is) in let rest = spelling-length c is in omega arith
spelling-length c (item.Shift k ∷ is) = let rest = spelling-length c is in omega arith

-- what is written is what is spelled
pub spelling-written : (c : ℕ) (is : List Item) (v : Word) → written_at c is ≡ Some v → v ≡ spelling c is
spelling-written c [] v e = sym (same_Some [] v e)
spelling-written c (item.Text w ∷ is) v e =
    let k = then_some (Some w) (written_at c is) v e in
    k.4 ∙ ap (λ (l : List ℕ). l ++ k.1) (sym (same_Some w k.0 k.2)) ∙ ap (λ (l : List ℕ). w ++ l) (spelling-written c is k.1 k.3)
spelling-written c (item.Shift z ∷ is) v e =
    let k = then_some (item_at c (item.Shift z)) (written_at c is) v e in
    k.4 ∙ ap (λ (l : List ℕ). l ++ k.1) (one (character (pos c +ℤ z)) k.2) ∙ ap (λ (l : List ℕ). moved_to z c ∷ l) (spelling-written c is k.1 k.3)
  where
    one : (o : Option ℕ) {a : Word} → option_map (λ d. d ∷ []) o ≡ Some a → a ≡ unwrap_or o no_character ∷ []
    one None e = cc
    one (Some d) e = cc

behind-word : (w s : List ℕ) → IsWord (w ++ s) → IsWord s
behind-word [] s h = h
behind-word (c ∷ w) s h = behind-word w s h.1

-- what is spelled is written where it is a word
pub spelling-word : (c : ℕ) (is : List Item) → IsWord (spelling c is) → written_at c is ≡ Some (spelling c is)
spelling-word c [] h = refl
spelling-word c (item.Text w ∷ is) h = ap (then_word (Some w)) (spelling-word c is (behind-word w (spelling c is) h))
spelling-word c (item.Shift z ∷ is) h =
    ap (then_word (item_at c (item.Shift z))) (spelling-word c is h.1) ∙ one (character (pos c +ℤ z)) h.0
  where
    one : (o : Option ℕ) → unwrap_or o no_character ≤ greatest_character → then_word (option_map (λ d. d ∷ []) o) (Some (spelling c is)) ≡ Some (unwrap_or o no_character ∷ spelling c is)
    one None le = absurd (omega (arith, le))
    one (Some d) le = refl
