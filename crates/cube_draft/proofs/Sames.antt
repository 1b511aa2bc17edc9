-- String terms of a written form that have one code are one term.
use Rattle.std.proofs.Common.{◌≡◌, refl, sym, ap, ◌∙◌, ℕ, Bool, true, false, List, [], ◌∷◌, nat_eq, arith}
use Rattle.std.specs.Prelude.{if◌then◌else◌}
use Rattle.std.proofs.lemmas.Bool.{and_parts}
use Rattle.sv_terms.specs.declared.op.Op.{Op}
use Rattle.sv_terms.specs.declared.op.Op.TheVariants as op
use Rattle.sv_terms.specs.declared.sort.Sort.{Sort}
use Rattle.sv_terms.specs.declared.sort.Sort.TheVariants as sort
use Rattle.literal_forms.specs.Alike.{code_is, code_self}
use Rattle.literal_forms.specs.Codes.{Code, word, pair, code, codes, op_number, same, sort_number}
use Rattle.literal_forms.specs.Linear.{are_strings, is_string}
use Rattle.literal_forms.specs.Shapes.{Shape, Shapes, text, constant, apply, end, ◌⨾◌}

-- what stands in a code
abbrev tag_of : Code → ℕ
tag_of (pair (word (n ∷ [])) c) = n
tag_of c = 99

abbrev first_of_code : Code → Code
first_of_code (pair a c) = a
first_of_code c = c

abbrev body_of : Code → Code
body_of (pair a c) = c
body_of c = c

abbrev word_of : Code → List ℕ
word_of (word w) = w
word_of c = []

abbrev is_pair : Code → Bool
is_pair (pair a c) = true
is_pair c = false

abbrev op_back : ℕ → Op
op_back n = if nat_eq n 0 then op.Not else if nat_eq n 1 then op.And else if nat_eq n 2 then op.Or else if nat_eq n 3 then op.Xor else if nat_eq n 4 then op.Implies else if nat_eq n 5 then op.Equal else if nat_eq n 6 then op.Distinct else if nat_eq n 7 then op.IfThenElse else if nat_eq n 8 then op.LessEqual else if nat_eq n 9 then op.Less else if nat_eq n 10 then op.GreaterEqual else if nat_eq n 11 then op.Greater else if nat_eq n 12 then op.Add else if nat_eq n 13 then op.Subtract else if nat_eq n 14 then op.Multiply else if nat_eq n 15 then op.Length else if nat_eq n 16 then op.Concat else if nat_eq n 17 then op.Replace else if nat_eq n 18 then op.ReplaceAll else if nat_eq n 19 then op.PrefixOf else if nat_eq n 20 then op.SuffixOf else if nat_eq n 21 then op.Contains else op.IsDigit

back_is : (o : Op) → op_back (op_number o) ≡ o
back_is op.Not = refl
back_is op.And = refl
back_is op.Or = refl
back_is op.Xor = refl
back_is op.Implies = refl
back_is op.Equal = refl
back_is op.Distinct = refl
back_is op.IfThenElse = refl
back_is op.LessEqual = refl
back_is op.Less = refl
back_is op.GreaterEqual = refl
back_is op.Greater = refl
back_is op.Add = refl
back_is op.Subtract = refl
back_is op.Multiply = refl
back_is op.Length = refl
back_is op.Concat = refl
back_is op.Replace = refl
back_is op.ReplaceAll = refl
back_is op.PrefixOf = refl
back_is op.SuffixOf = refl
back_is op.Contains = refl
back_is op.IsDigit = refl

abbrev sort_back : ℕ → Sort
sort_back n = if nat_eq n 0 then sort.Bool else if nat_eq n 1 then sort.Int else if nat_eq n 2 then sort.String else sort.RegLan

sort_is : (s : Sort) → sort_back (sort_number s) ≡ s
sort_is sort.Bool = refl
sort_is sort.Int = refl
sort_is sort.String = refl
sort_is sort.RegLan = refl

text_is : (w : List ℕ) (t : Shape) → code (text w) ≡ code t → text w ≡ t
text_is w (text v) h = ap (λ c. text (word_of (body_of c))) h
text_is w _ h = absurd (let k = ap tag_of h in omega (arith, k))

constant_is : (n : List ℕ) (s : Sort) (t : Shape) → code (constant n s) ≡ code t → constant n s ≡ t
constant_is n s (constant m r) h =
    let sorts : s ≡ r = sym (sort_is s) ∙ ap (λ c. sort_back (tag_of (pair (first_of_code (body_of c)) c))) h ∙ sort_is r in
    λ i. constant (word_of (body_of (body_of (h i)))) (sorts i)
constant_is n s _ h = absurd (let k = ap tag_of h in omega (arith, k))

never_pair : (a b : Code) → a ≡ b → is_pair a ≡ true → is_pair b ≡ false → ⊥
never_pair a b e t f = let k : true ≡ false = sym t ∙ ap is_pair e ∙ f in cc

three_are : (s : Shape) (p u : List ℕ) (ts : Shapes) → ((t : Shape) → code s ≡ code t → s ≡ t) → codes (s ⨾ text p ⨾ text u ⨾ end) ≡ codes ts → (s ⨾ text p ⨾ text u ⨾ end) ≡ ts
three_are s p u (a ⨾ b ⨾ c ⨾ end) f h =
    let x = f a (ap first_of_code h) in
    let y = text_is p b (ap (λ z. first_of_code (body_of z)) h) in
    let w = text_is u c (ap (λ z. first_of_code (body_of (body_of z))) h) in
    λ i. x i ⨾ y i ⨾ w i ⨾ end
three_are s p u end f h = absurd (never_pair _ _ h refl refl)
three_are s p u (a ⨾ end) f h = absurd (never_pair _ _ (ap body_of h) refl refl)
three_are s p u (a ⨾ b ⨾ end) f h = absurd (never_pair _ _ (ap (λ z. body_of (body_of z)) h) refl refl)
three_are s p u (a ⨾ b ⨾ c ⨾ d ⨾ ts) f h = absurd (never_pair _ _ (sym (ap (λ z. body_of (body_of (body_of z))) h)) refl refl)

applied_is : (o : Op) (ss : Shapes) (t : Shape) → ((ts : Shapes) → codes ss ≡ codes ts → ss ≡ ts) → code (apply o ss) ≡ code t → apply o ss ≡ t
applied_is o ss (apply p ts) f h =
    let ops : o ≡ p = sym (back_is o) ∙ ap (λ c. op_back (tag_of (body_of c))) h ∙ back_is p in
    let all = f ts (ap (λ c. body_of (body_of c)) h) in
    λ i. apply (ops i) (all i)
applied_is o ss _ f h = absurd (let k = ap tag_of h in omega (arith, k))

pieces_are : (s : Shape) (ss ts : Shapes) → ((t : Shape) → code s ≡ code t → s ≡ t) → ((us : Shapes) → codes ss ≡ codes us → ss ≡ us) → codes (s ⨾ ss) ≡ codes ts → (s ⨾ ss) ≡ ts
pieces_are s ss end f g h = absurd (never_pair _ _ h refl refl)
pieces_are s ss (t ⨾ ts) f g h =
    let x = f t (ap first_of_code h) in
    let y = g ts (ap body_of h) in
    λ i. x i ⨾ y i

mutual
  pub string_code : (s t : Shape) → is_string s ≡ true → code s ≡ code t → s ≡ t
  string_code (text w) t e h = text_is w t h
  string_code (constant n s) t e h = constant_is n s t h
  string_code (apply op.Concat (s ⨾ ss)) t e h =
      let k = and_parts (is_string s) (are_strings ss) e in
      applied_is op.Concat (s ⨾ ss) t (λ ts l. pieces_are s ss ts (λ r m. string_code s r k.0 m) (λ us m. strings_are ss us k.1 m) l) h
  string_code (apply op.Replace (s ⨾ text p ⨾ text u ⨾ end)) t e h = applied_is op.Replace (s ⨾ text p ⨾ text u ⨾ end) t (λ ts k. three_are s p u ts (λ r l. string_code s r e l) k) h
  string_code (apply op.ReplaceAll (s ⨾ text p ⨾ text u ⨾ end)) t e h = applied_is op.ReplaceAll (s ⨾ text p ⨾ text u ⨾ end) t (λ ts k. three_are s p u ts (λ r l. string_code s r e l) k) h
  string_code _ t e h = absurd (cc)

  strings_are : (ss ts : Shapes) → are_strings ss ≡ true → codes ss ≡ codes ts → ss ≡ ts
  strings_are end end e h = refl
  strings_are end (t ⨾ ts) e h = absurd (never_pair _ _ (sym h) refl refl)
  strings_are (s ⨾ ss) ts e h =
      let k = and_parts (is_string s) (are_strings ss) e in
      pieces_are s ss ts (λ r m. string_code s r k.0 m) (λ us m. strings_are ss us k.1 m) h

-- a term that is the same as one of a written form is that one
pub string_is : (s t : Shape) → is_string s ≡ true → same s t ≡ true → s ≡ t
string_is s t e h = string_code s t e (code_is (code s) (code t) h)

pub string_self : (s : Shape) → same s s ≡ true
string_self s = code_self (code s)
