-- Terms, taken apart: what the tests of a term are by those of its parts, and induction.
use Rattle.std.proofs.Common.{◌≡◌, refl, sym, ap, ◌∙◌, subst, ℕ, ℤ, map, Bool, true, ◌&&◌, ◌||◌, List, [], ◌∷◌}
use Rattle.std.specs.Prelude.{nat_le}
use Rattle.std.specs.List.{list_all, list_any}
use Rattle.sv_list.specs.Lists.{list_any-map}
use Rattle.sv_word.specs.Words.{greatest_character}
use Rattle.sv_terms.specs.Language.{Word}
use Rattle.sv_terms.specs.Parts.{every_part, every_step, some_part, some_step}
use Rattle.sv_terms.specs.declared.op.Op.{Op}
use Rattle.sv_terms.specs.declared.regex.Regex.{Regex}
use Rattle.sv_terms.specs.declared.sort.Sort.{Sort}
use Rattle.sv_terms.specs.declared.term.Term.{Term, roll-Term}
use Rattle.sv_terms.specs.declared.term.Term.TheVariants as v
use Rattle.sv_terms.specs.declared.term.Term.TheOpen.{Term-F}
use Rattle.sv_terms.specs.declared.term.Term.TheFolds.{map-Term, ind-Term, fold-Term, fold-roll-Term}
use Rattle.sv_terms.specs.declared.transducer.Transducer.{Transducer}
use Rattle.assertion_parts.specs.Constants.{has_words, words_step}

-- a fold of a term by those of its parts
pub at : {A : Type 0} (f : Term-F A → A) (t : Term) (x : Term-F Term) → roll-Term x ≡ t → fold-Term A f t ≡ f (map-Term Term A (fold-Term A f) x)
at {A} f t x e = ap (fold-Term A f) (sym e) ∙ fold-roll-Term A f x

all-map : {X : Type 0} (f : X → Bool) (xs : List X) → list_all (λ b. b) (map f xs) ≡ list_all f xs
all-map f [] = refl
all-map f (x ∷ xs) = ap (λ b. f x && b) (all-map f xs)

-- a test of each constant and of each transducer
module _ (f : List ℕ → Sort → Bool) (g : Transducer → Bool) where
  pub every-Truth : (b : Bool) → every_part f g (v.Truth b) ≡ true
  every-Truth b = at (every_step f g) _ (Term-F.Truth b) (v.rolls-Truth b)

  pub every-Number : (n : ℤ) → every_part f g (v.Number n) ≡ true
  every-Number n = at (every_step f g) _ (Term-F.Number n) (v.rolls-Number n)

  pub every-Text : (w : Word) → every_part f g (v.Text w) ≡ true
  every-Text w = at (every_step f g) _ (Term-F.Text w) (v.rolls-Text w)

  pub every-Constant : (n : List ℕ) (s : Sort) → every_part f g (v.Constant n s) ≡ f n s
  every-Constant n s = at (every_step f g) _ (Term-F.Constant n s) (v.rolls-Constant n s)

  pub every-Apply : (o : Op) (ts : List Term) → every_part f g (v.Apply o ts) ≡ list_all (every_part f g) ts
  every-Apply o ts = at (every_step f g) _ (Term-F.Apply o ts) (v.rolls-Apply o ts) ∙ all-map (every_part f g) ts

  pub every-InRe : (t : Term) (r : Regex) → every_part f g (v.InRe t r) ≡ every_part f g t
  every-InRe t r = at (every_step f g) _ (Term-F.InRe t r) (v.rolls-InRe t r)

  pub every-Related : (m : Transducer) (t u : Term) → every_part f g (v.Related m t u) ≡ (g m && (every_part f g t && every_part f g u))
  every-Related m t u = at (every_step f g) _ (Term-F.Related m t u) (v.rolls-Related m t u)

  pub every-Opaque : (s : Sort) → every_part f g (v.Opaque s) ≡ true
  every-Opaque s = at (every_step f g) _ (Term-F.Opaque s) (v.rolls-Opaque s)

-- a test of some constant
module _ (f : List ℕ → Sort → Bool) (o : Bool) where
  pub some-Constant : (n : List ℕ) (s : Sort) → some_part f o (v.Constant n s) ≡ f n s
  some-Constant n s = at (some_step f o) _ (Term-F.Constant n s) (v.rolls-Constant n s)

  pub some-Apply : (p : Op) (ts : List Term) → some_part f o (v.Apply p ts) ≡ list_any (some_part f o) ts
  some-Apply p ts = at (some_step f o) _ (Term-F.Apply p ts) (v.rolls-Apply p ts) ∙ list_any-map (some_part f o) ts

  pub some-InRe : (t : Term) (r : Regex) → some_part f o (v.InRe t r) ≡ some_part f o t
  some-InRe t r = at (some_step f o) _ (Term-F.InRe t r) (v.rolls-InRe t r)

  pub some-Related : (m : Transducer) (t u : Term) → some_part f o (v.Related m t u) ≡ (some_part f o t || some_part f o u)
  some-Related m t u = at (some_step f o) _ (Term-F.Related m t u) (v.rolls-Related m t u)

-- words
pub words-Truth : (b : Bool) → has_words (v.Truth b) ≡ true
words-Truth b = at words_step _ (Term-F.Truth b) (v.rolls-Truth b)

pub words-Number : (n : ℤ) → has_words (v.Number n) ≡ true
words-Number n = at words_step _ (Term-F.Number n) (v.rolls-Number n)

pub words-Text : (w : Word) → has_words (v.Text w) ≡ list_all (λ c. nat_le c greatest_character) w
words-Text w = at words_step _ (Term-F.Text w) (v.rolls-Text w)

pub words-Constant : (n : List ℕ) (s : Sort) → has_words (v.Constant n s) ≡ true
words-Constant n s = at words_step _ (Term-F.Constant n s) (v.rolls-Constant n s)

pub words-Apply : (o : Op) (ts : List Term) → has_words (v.Apply o ts) ≡ list_all has_words ts
words-Apply o ts = at words_step _ (Term-F.Apply o ts) (v.rolls-Apply o ts) ∙ all-map has_words ts

pub words-InRe : (t : Term) (r : Regex) → has_words (v.InRe t r) ≡ has_words t
words-InRe t r = at words_step _ (Term-F.InRe t r) (v.rolls-InRe t r)

pub words-Related : (m : Transducer) (t u : Term) → has_words (v.Related m t u) ≡ (has_words t && has_words u)
words-Related m t u = at words_step _ (Term-F.Related m t u) (v.rolls-Related m t u)

pub words-Opaque : (s : Sort) → has_words (v.Opaque s) ≡ true
words-Opaque s = at words_step _ (Term-F.Opaque s) (v.rolls-Opaque s)

pub ruleset words = (words-Truth, words-Number, words-Text, words-Constant, words-Apply, words-InRe, words-Related, words-Opaque)

-- P of each
abbrev pub Each : {A : Type 0} → (A → Type 0) → List A → Type 0
Each P [] = Unit {0}
Each P (x ∷ xs) = P x × Each P xs

-- induction over terms
module _ (P : Term → Type 0)
    (truth : (b : Bool) → P (v.Truth b)) (number : (n : ℤ) → P (v.Number n)) (text : (w : Word) → P (v.Text w)) (constant : (n : List ℕ) (s : Sort) → P (v.Constant n s))
    (apply : (o : Op) (ts : List Term) → Each P ts → P (v.Apply o ts)) (member : (t : Term) (r : Regex) → P t → P (v.InRe t r))
    (relate : (m : Transducer) (t u : Term) → P t → P u → P (v.Related m t u)) (opaque : (s : Sort) → P (v.Opaque s)) where
  abbrev Sure : Type 0
  Sure = (t : Term) × P t

  each : (ys : List Sure) → Each P (map (λ y. y.0) ys)
  each [] = tt
  each (y ∷ ys) = (y.1, each ys)

  layer : (y : Term-F Sure) → P (roll-Term (map-Term Sure Term (λ e. e.0) y))
  layer (Term-F.Truth b) = subst P (sym (v.rolls-Truth b)) (truth b)
  layer (Term-F.Number n) = subst P (sym (v.rolls-Number n)) (number n)
  layer (Term-F.Text w) = subst P (sym (v.rolls-Text w)) (text w)
  layer (Term-F.Constant n s) = subst P (sym (v.rolls-Constant n s)) (constant n s)
  layer (Term-F.Apply o ys) = subst P (sym (v.rolls-Apply o (map (λ y. y.0) ys))) (apply o (map (λ y. y.0) ys) (each ys))
  layer (Term-F.InRe y r) = subst P (sym (v.rolls-InRe y.0 r)) (member y.0 r y.1)
  layer (Term-F.Related m y z) = subst P (sym (v.rolls-Related m y.0 z.0)) (relate m y.0 z.0 y.1 z.1)
  layer (Term-F.Opaque s) = subst P (sym (v.rolls-Opaque s)) (opaque s)

  pub induct : (t : Term) → P t
  induct = ind-Term P (λ x y is. subst (λ z. P (roll-Term z)) is (layer y))
