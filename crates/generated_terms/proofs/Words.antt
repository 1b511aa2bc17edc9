-- Words of pairs, powers of a word, and words in which each `<` was escaped.
use Rattle.std.proofs.Common.{◌≡◌, ℕ, zero, suc, ◌*◌, [], ◌∷◌, ◌++◌, length, Bool, true, false, ◌&&◌, nat_eq, if◌then◌else◌, refl, ap, ◌∙◌, arith, length-append}
use Rattle.sv_terms.specs.Language.{Word, Language, Repeated, done, more, Power}
use Rattle.sv_terms.specs.Replacement.{occurs, replace_from, replace_all}
use Rattle.sv_word.specs.Words.{IsWord}

-- words of two characters, one after another, have an even length
pub even_length : (P : Language) → ((u : Word) → P u → length u ≡ 2) → (w : Word) → Repeated P w → (m : ℕ) × (length w ≡ 2 * m)
even_length P two w done = (0, refl)
even_length P two w (more {c} {u} {v} e h r) =
    let k = even_length P two v r in
    (suc k.0, omega (arith, ap length e, length-append (c ∷ u) v, two (c ∷ u) h, k.1))

-- `ab` so many times
abbrev pub abs : ℕ → Word
abs zero = []
abs (suc n) = 97 ∷ 98 ∷ abs n

pub abs_power : (P : Language) → P (97 ∷ 98 ∷ []) → (n : ℕ) → Power P n (abs n)
abs_power P h zero = refl
abs_power P h (suc n) = (97 ∷ 98 ∷ [], abs n, refl, h, abs_power P h n)

pub abs_length : (n : ℕ) → length (abs n) ≡ 2 * n
abs_length zero = refl
abs_length (suc n) = omega (arith, abs_length n)

pub abs_word : (n : ℕ) → IsWord (abs n)
abs_word zero = tt
abs_word (suc n) = (omega arith, (omega arith, abs_word n))

-- `a` so many times
abbrev pub copies : ℕ → Word
copies zero = []
copies (suc n) = 97 ∷ copies n

pub copies_length : (n : ℕ) → length (copies n) ≡ n
copies_length zero = refl
copies_length (suc n) = omega (arith, copies_length n)

pub copies_word : (n : ℕ) → IsWord (copies n)
copies_word zero = tt
copies_word (suc n) = (omega arith, copies_word n)

pub word-append : (v w : Word) → IsWord v → IsWord w → IsWord (v ++ w)
word-append [] w h g = g
word-append (c ∷ v) w h g = (h.0, word-append v w h.1 g)

-- `<` and what stands for it
abbrev pub less_than : Word
less_than = 60 ∷ []

abbrev pub escape : Word
escape = 38 ∷ 108 ∷ 116 ∷ 59 ∷ []

escaped_step : (b : Bool) (c : ℕ) (rest : Word) → nat_eq 60 c ≡ b → occurs less_than rest ≡ false → occurs less_than (if b && true then escape ++ rest else (c ∷ rest)) ≡ false
escaped_step true c rest e h = h
escaped_step false c rest e h = ap (λ (b : Bool). if b && true then true else occurs less_than rest) e ∙ h

no_less : (w : Word) → occurs less_than (replace_from less_than escape 0 w) ≡ false
no_less [] = refl
no_less (c ∷ w) = escaped_step (nat_eq 60 c) c (replace_from less_than escape 0 w) refl (no_less w)

pub none_left : (w : Word) → occurs less_than (replace_all less_than escape w) ≡ false
none_left w = no_less w
