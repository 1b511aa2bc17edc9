-- Codes that are told to be the same are one, and each is the same as itself.
use Rattle.std.proofs.Common.{◌≡◌, refl, sym, ap, ℕ, true, List, [], ◌∷◌, nat_eq}
use Rattle.std.specs.Cmp.Lexicographic.{pointwise, same_text}
use Rattle.std.proofs.lemmas.Bool.Decides.{Decides-int_eq, Decides-eqb}
use Rattle.std.proofs.lemmas.Bool.{and_parts, and_from}
use Rattle.literal_forms.specs.Codes.{Code, signed, word, pair, same_code}

pub text_self : (w : List ℕ) → pointwise nat_eq w w ≡ true
text_self [] = refl
text_self (c ∷ w) = and_from (nat_eq c c) (pointwise nat_eq w w) ((Decides-eqb c c).1 refl) (text_self w)

pub code_is : (a b : Code) → same_code a b ≡ true → a ≡ b
code_is (signed m) (signed n) h = ap signed ((Decides-int_eq m n).0 h)
code_is (word v) (word w) h = ap word (same_text v w (sym h))
code_is (pair a b) (pair c d) h = let k = and_parts (same_code a c) (same_code b d) h in λ i. pair (code_is a c k.0 i) (code_is b d k.1 i)
code_is _ _ h = absurd (cc)

pub code_self : (a : Code) → same_code a a ≡ true
code_self (signed m) = (Decides-int_eq m m).1 refl
code_self (word w) = text_self w
code_self (pair a b) = and_from (same_code a a) (same_code b b) (code_self a) (code_self b)
