-- What parts say of the lengths of words.
use Rattle.std.proofs.Common.{◌≡◌, refl, sym, ap, subst, ◌∙◌, ◌≤◌, ◌<◌, ◌+◌, ℕ, suc, ℤ, pos, ◌≤ℤ◌, ◌+ℤ◌, ◌-ℤ◌, Bool, true, false, cond, List, [], ◌∷◌, map, length, drop, get_or, reverse, arith}
use Rattle.std.specs.Prelude.{nat_eq, ◌&&◌}
use Rattle.std.proofs.lemmas.Int.{ints}
use Rattle.std.proofs.Math.Seq.{drop-cons}
use Rattle.std.proofs.lemmas.List.{length-append, length-reverse}
use Rattle.sv_terms.specs.Language.{Word}
use Rattle.sv_terms.specs.Meaning.{is_digit, joined}
use Rattle.sv_terms.specs.Replacement.{begins, occurs}
use Rattle.flat_cubes.specs.Satisfying.{ComesBy, Defines, MeetsPart, Says, word_at}
use Rattle.flat_cubes.specs.declared.definition.By.TheVariants as by
use Rattle.flat_cubes.specs.declared.definition.Definition.{Definition}
use Rattle.length_rows.specs.Lengths.{HasLengths}
use Rattle.flat_cubes.specs.declared.variable.Own.{Own}

and-right : (a b : Bool) → (a && b) ≡ true → b ≡ true
and-right true b h = h
and-right false b h = absurd (cc)

pub begins-short : (p w : Word) → begins p w ≡ true → length p ≤ length w
begins-short [] w h = omega arith
begins-short (c ∷ p) [] h = absurd (cc)
begins-short (c ∷ p) (d ∷ w) h = let r = begins-short p w (and-right (nat_eq c d) (begins p w) h) in omega (arith, r)

occurs-cases : (b : Bool) (p w : Word) (c : ℕ) → begins p (c ∷ w) ≡ b → cond b true (occurs p w) ≡ true → (occurs p w ≡ true → length p ≤ length w) → length p ≤ length (c ∷ w)
occurs-cases true p w c e k rest = begins-short p (c ∷ w) e
occurs-cases false p w c e k rest = let r = rest k in omega (arith, r)

pub occurs-short : (p w : Word) → occurs p w ≡ true → length p ≤ length w
occurs-short p [] h = begins-short p [] h
occurs-short p (c ∷ w) h = occurs-cases (begins p (c ∷ w)) p w c refl h (occurs-short p w)

pub ends-short : (p w : Word) → begins (reverse p) (reverse w) ≡ true → length p ≤ length w
ends-short p w h = let r = begins-short (reverse p) (reverse w) h in omega (arith, r, length-reverse p, length-reverse w)

pub digit-length : (w : Word) → is_digit w ≡ true → length w ≡ 1
digit-length [] h = absurd (cc)
digit-length (c ∷ []) h = refl
digit-length (c ∷ d ∷ w) h = absurd (cc)

-- a part that is to hold does
pub part-says : (w : Word) (p : Own × Bool) (o : Own) → p.0 ≡ o → p.1 ≡ true → MeetsPart w p → Says o w
part-says w p o e f h = subst (λ (q : Own × Bool). MeetsPart w q) (λ i. (e i, f i)) h

pub at-least : (z : ℤ) (n m k : ℕ) → z ≡ pos n → k ≡ m → m ≤ n → pos k ≤ℤ z
at-least z n m k e f l = omega (arith, ints)

pub is-exactly : (z : ℤ) (n m k : ℕ) → z ≡ pos n → k ≡ m → n ≡ m → z ≡ pos k
is-exactly z n m k e f l = e ∙ ap pos (l ∙ sym f)

pub joined-length : (f : ℕ → Word) (v : ℕ) (vs : List ℕ) → length (joined (map f (v ∷ vs))) ≡ length (f v) + length (joined (map f vs))
joined-length f v vs = length-append (f v) (joined (map f vs))

-- one more piece in front
pub piece-added : (x : ℕ → ℤ) (words : List Word) (base : ℕ) (w v z : ℤ) (pieces : List ℕ) (i k e : ℕ) → HasLengths base x words → i < length pieces → k ≡ suc i → e ≡ get_or pieces i 0 → v ≡ z +ℤ x (base + e)
    → z ≡ pos (length (joined (map (word_at words) (drop k pieces)))) -ℤ w → v ≡ pos (length (joined (map (word_at words) (drop i pieces)))) -ℤ w
piece-added x words base w v z pieces i k e has l s is f g =
    let f2 = f ∙ ap (λ j. z +ℤ x (base + j)) is ∙ ap (λ y. z +ℤ y) (has (get_or pieces i 0)) in
    let g2 = g ∙ ap (λ j. pos (length (joined (map (word_at words) (drop j pieces)))) -ℤ w) s in
    let n = ap (λ ps. length (joined (map (word_at words) ps))) (drop-cons pieces i 0 l) ∙ joined-length (word_at words) (get_or pieces i 0) (drop (suc i) pieces) in
    omega (arith, ints, f2, g2, n)

-- the unknown of a variable that is a concatenation
pub whole-length : (x : ℕ → ℤ) (words : List Word) (base whole : ℕ) (d : Definition) (pieces given : List ℕ) → HasLengths base x words → whole ≡ base + d.variable → d.by ≡ by.Concat pieces → given ≡ pieces → Defines words d
    → x whole ≡ pos (length (joined (map (word_at words) given)))
whole-length x words base whole d pieces given has w is g h =
    ap x w ∙ has d.variable ∙ ap (λ u. pos (length u)) (subst (ComesBy (word_at words) (word_at words d.variable)) is h) ∙ ap (λ ps. pos (length (joined (map (word_at words) ps)))) (sym g)

-- the unknown of a register
pub register-length : (words : List Word) (z : ℤ) (v : ℕ) (given : List ℕ) → z ≡ pos (length (word_at words v)) → given ≡ v ∷ [] → z ≡ pos (length (joined (map (word_at words) given)))
register-length words z v given e g =
    let n = joined-length (word_at words) v [] in
    let m = ap (λ ps. length (joined (map (word_at words) ps))) g in
    omega (arith, ints, e, n, m)
