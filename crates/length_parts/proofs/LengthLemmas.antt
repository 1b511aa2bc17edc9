-- Which words a regular expression of characters has.
use Rattle.std.proofs.Common.{◌≡◌, refl, sym, ap, subst, ◌∙◌, ◌≤◌, ℕ, zero, suc, [], ◌∷◌, ◌++◌, length, arith}
use Rattle.std.proofs.lemmas.List.{append-nil, length-append}
use Rattle.sv_word.specs.Words.{IsWord, greatest_character}
use Rattle.sv_terms.specs.Language.{In, InEachInTurn, Power, Then, Word}
use Rattle.sv_terms.specs.Opened.{In-All, In-AnyChar, In-Concat, In-Loop}
use Rattle.sv_terms.specs.declared.regex.Regex.{Regex}
use Rattle.sv_terms.specs.declared.regex.Regex.TheVariants as regex
use Rattle.length_parts.specs.Rewriting.{HasWordsOf}
use Rattle.length_parts.specs.declared.bound.LengthBound.{LengthBound}
use Rattle.length_parts.specs.declared.bound.LengthBound.TheVariants as bound

abbrev OneCharacter : Word → Type 0
OneCharacter w = (c : ℕ) × (c ≤ greatest_character) × (w ≡ c ∷ [])

any-one : (w : Word) → In regex.AnyChar w → OneCharacter w
any-one w h = subst (λ (T : Type 0). T) (In-AnyChar w) h

one-any : (w : Word) → OneCharacter w → In regex.AnyChar w
one-any w h = subst (λ (T : Type 0). T) (sym (In-AnyChar w)) h

all-word : (w : Word) → IsWord w → In regex.All w
all-word w h = subst (λ (T : Type 0). T) (sym (In-All w)) h

power-length : (n : ℕ) (w : Word) → Power (In regex.AnyChar) n w → length w ≡ n
power-length zero w h = ap length h
power-length (suc n) w (u, v, e, p, q) =
    let one = any-one u p in
    let k = ap length e ∙ length-append u v in
    let l = ap length one.2 in
    let m = power-length n v q in
    omega (arith, k, l, m)

length-power : (w : Word) → IsWord w → Power (In regex.AnyChar) (length w) w
length-power [] h = refl
length-power (c ∷ w) h = (c ∷ [], w, refl, one-any (c ∷ []) (c, h.0, refl), length-power w h.1)

loop-length : (i j : ℕ) (w : Word) → In (regex.Loop regex.AnyChar i j) w → (i ≤ length w) × (length w ≤ j)
loop-length i j w t = by (subst (λ (T : Type 0). T) (In-Loop regex.AnyChar i j w) t)
  where
    by : ((n : ℕ) × (i ≤ n) × (n ≤ j) × Power (In regex.AnyChar) n w) → (i ≤ length w) × (length w ≤ j)
    by (n, lo, hi, p) = let e = power-length n w p in (omega (arith, lo, e), omega (arith, hi, e))

in-loop : (i j : ℕ) (w : Word) → IsWord w → i ≤ length w → length w ≤ j → In (regex.Loop regex.AnyChar i j) w
in-loop i j w h lo hi = subst (λ (T : Type 0). T) (sym (In-Loop regex.AnyChar i j w)) (length w, lo, hi, length-power w h)

abbrev Splits : ℕ → Word → Type 0
Splits m w = (u v : Word) × (w ≡ u ++ v) × IsWord u × IsWord v × (length u ≡ m)

split-at : (m : ℕ) (w : Word) → IsWord w → m ≤ length w → Splits m w
split-at zero w h l = ([], w, refl, tt, h, refl)
split-at (suc m) [] h l = absurd (omega arith)
split-at (suc m) (c ∷ w) h l = by (split-at m w h.1 (omega arith))
  where
    by : Splits m w → Splits (suc m) (c ∷ w)
    by (u, v, e, a, b, k) = (c ∷ u, v, ap (λ z. c ∷ z) e, (h.0, a), b, ap suc k)

abbrev long : ℕ → Regex
long m = regex.Concat (regex.Loop regex.AnyChar m m ∷ regex.All ∷ [])

long-length : (m : ℕ) (w : Word) → In (long m) w → m ≤ length w
long-length m w t = by (subst (λ (T : Type 0). T) (In-Concat (regex.Loop regex.AnyChar m m ∷ regex.All ∷ []) w) t)
  where
    by : Then (In (regex.Loop regex.AnyChar m m)) (InEachInTurn In (regex.All ∷ [])) w → m ≤ length w
    by (u, v, e, p, q) = let l = loop-length m m u p in let k = ap length e ∙ length-append u v in let lo = l.0 in omega (arith, lo, k)

in-long : (m : ℕ) (w : Word) → IsWord w → m ≤ length w → In (long m) w
in-long m w h l = subst (λ (T : Type 0). T) (sym (In-Concat (regex.Loop regex.AnyChar m m ∷ regex.All ∷ []) w)) (by (split-at m w h l))
  where
    by : Splits m w → Then (In (regex.Loop regex.AnyChar m m)) (InEachInTurn In (regex.All ∷ [])) w
    by (u, v, e, a, b, k) = (u, v, e, in-loop m m u a (omega (arith, k)) (omega (arith, k)), (v, [], sym (append-nil v), all-word v b, refl))

pub words-at-most : (b : LengthBound) (m : ℕ) (r : Regex) → b ≡ bound.AtMost m → r ≡ regex.Loop regex.AnyChar 0 m → HasWordsOf b r
words-at-most b m r e f = subst (λ c. HasWordsOf c r) (sym e) (subst (HasWordsOf (bound.AtMost m)) (sym f) (λ w h. (λ t. (loop-length 0 m w t).1, λ l. in-loop 0 m w h (omega arith) l)))

pub words-at-least : (b : LengthBound) (m : ℕ) (r : Regex) → b ≡ bound.AtLeast m → r ≡ regex.Concat (regex.Loop regex.AnyChar m m ∷ regex.All ∷ []) → HasWordsOf b r
words-at-least b m r e f = subst (λ c. HasWordsOf c r) (sym e) (subst (HasWordsOf (bound.AtLeast m)) (sym f) (λ w h. (λ t. long-length m w t, λ l. in-long m w h l)))

pub words-exactly : (b : LengthBound) (m : ℕ) (r : Regex) → b ≡ bound.Exactly m → r ≡ regex.Loop regex.AnyChar m m → HasWordsOf b r
words-exactly b m r e f =
    subst (λ c. HasWordsOf c r) (sym e) (subst (HasWordsOf (bound.Exactly m)) (sym f)
    (λ w h. (λ t. (let l = loop-length m m w t in let lo = l.0 in let hi = l.1 in omega (arith, lo, hi)), λ l. in-loop m m w h (omega (arith, l)) (omega (arith, l)))))
