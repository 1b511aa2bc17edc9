-- Bytes are lexed in one way.
use Rattle.std.proofs.Common.{◌≡◌, ℕ, ◌==◌, ◌||◌, not, List, [], ◌∷◌, ◌++◌, Bool, true, false, IsTrue, if◌then◌else◌, refl, sym, ap, ◌∙◌, subst, append_assoc}
use Rattle.std.specs.List.{list_all}
use Rattle.std.proofs.lemmas.Bool.{or_parts, not-true}
use Rattle.sv_list.specs.Bools.{and-first, and-second}
use Rattle.sexpr_reader.specs.declared.kind.TokenKind.{TokenKind}
use Rattle.sexpr_reader.specs.declared.kind.TokenKind.TheVariants.{Numeral, Decimal, Hexadecimal, Binary, Symbol, Quoted, Keyword, Literal}
use Rattle.sexpr_reader.specs.Bytes.{is_white, is_line_end, is_border}
use Rattle.sexpr_reader.specs.Tokens.{doubled, is_barred, is_readable, IsTokenRun, IsPlain, Token, Open, Close, Atomic, text, IsToken}
use Rattle.sexpr_reader.specs.Lexes.{IsBlank, none, white, comment, is_comment, EndsOrPasses, IsEnded}

-- the bytes behind white space and comments, from inside a comment or not
abbrev pub skip : Bool → List ℕ → List ℕ
skip inside [] = []
skip true (b ∷ bs) = if is_line_end b then skip false bs else skip true bs
skip false (b ∷ bs) = if is_white b then skip false bs else if b == 59 then skip true bs else b ∷ bs

skip-comment : (body : List ℕ) (b : ℕ) (bs : List ℕ) → IsTrue (is_comment body) → IsTrue (is_line_end b) → skip true (body ++ b ∷ bs) ≡ skip false bs
skip-comment [] b bs h e = ap (λ (c : Bool). if c then skip false bs else skip true bs) e
skip-comment (x ∷ body) b bs h e =
    let other : is_line_end x ≡ false = not-true (is_line_end x) (and-first (not (is_line_end x)) _ h) in
    ap (λ (c : Bool). if c then skip false (body ++ b ∷ bs) else skip true (body ++ b ∷ bs)) other ∙ skip-comment body b bs (and-second (not (is_line_end x)) _ h) e

pub skip-blank : (blank bs : List ℕ) → IsBlank blank → skip false (blank ++ bs) ≡ skip false bs
skip-blank blank bs none = refl
skip-blank blank bs (white {b = b} {bs = rest} w k) = ap (λ (c : Bool). if c then skip false (rest ++ bs) else if b == 59 then skip true (rest ++ bs) else b ∷ (rest ++ bs)) w ∙ skip-blank rest bs k
skip-blank blank bs (comment body b rest c e k) =
    ap (skip true) (append_assoc body (b ∷ rest) bs) ∙ skip-comment body b (rest ++ bs) c e ∙ skip-blank rest bs k

-- a byte that begins a token stays
pub skip-stays : (b : ℕ) (bs : List ℕ) → is_white b ≡ false → (b == 59) ≡ false → skip false (b ∷ bs) ≡ b ∷ bs
skip-stays b bs w c = ap (λ (x : Bool). if x then skip false bs else if b == 59 then skip true bs else b ∷ bs) w ∙ ap (λ (x : Bool). if x then skip true bs else b ∷ bs) c

-- runs
pub run_first : (bs : List ℕ) → IsTokenRun bs → (b : ℕ) × (rest : List ℕ) × (bs ≡ b ∷ rest) × (is_border b ≡ false) × IsTrue (list_all (λ x. not (is_border x)) rest)
run_first [] h = cc
run_first (b ∷ rest) h = (b, rest, refl, not-true (is_border b) (and-first (not (is_border b)) _ h), and-second (not (is_border b)) _ h)

-- two fronts that pass, each up to what doesn't pass
pub same_front : (q : ℕ → Bool) (ended : Bool) (xs ys a b : List ℕ) → IsTrue (list_all (λ x. not (q x)) xs) → IsTrue (list_all (λ x. not (q x)) ys) → EndsOrPasses q ended a → EndsOrPasses q ended b → xs ++ a ≡ ys ++ b → (xs ≡ ys) × (a ≡ b)
same_front q ended [] [] a b h g d e k = (refl, k)
same_front q ended [] (y ∷ ys) [] b h g d e k = cc
same_front q ended [] (y ∷ ys) (x ∷ a) b h g d e k =
    let same : x ≡ y = cc in
    let other : q y ≡ false = not-true (q y) (and-first (not (q y)) _ g) in
    let here : q x ≡ true = d in
    let there : q x ≡ false = ap q same ∙ other in cc
same_front q ended (x ∷ xs) [] a [] h g d e k = cc
same_front q ended (x ∷ xs) [] a (y ∷ b) h g d e k =
    let same : x ≡ y = cc in
    let other : q x ≡ false = not-true (q x) (and-first (not (q x)) _ h) in
    let here : q y ≡ true = e in
    let there : q y ≡ false = ap q (sym same) ∙ other in cc
same_front q ended (x ∷ xs) (y ∷ ys) a b h g d e k =
    let same : x ≡ y = cc in
    let later : xs ++ a ≡ ys ++ b = cc in
    let r = same_front q ended xs ys a b (and-second (not (q x)) _ h) (and-second (not (q y)) _ g) d e later in
    let xs_is : xs ≡ ys = r.0 in
    (cc, r.1)

-- what stands at a token
pub data View (ended : Bool) : Token → List ℕ → Type 0 where
  opens : (after : List ℕ) → View ended Open after
  closes : (after : List ℕ) → View ended Close after
  bars : (body after : List ℕ) → IsTrue (is_barred body) → View ended (Atomic Quoted (124 ∷ body ++ 124 ∷ [])) after
  quotes : (content after : List ℕ) → IsTrue (is_readable (doubled content)) → EndsOrPasses (λ b. not (b == 34)) ended after → View ended (Atomic Literal (34 ∷ doubled content ++ 34 ∷ [])) after
  plain : (kind : TokenKind) (bs after : List ℕ) → IsTokenRun bs → IsPlain kind bs → EndsOrPasses is_border ended after → View ended (Atomic kind bs) after

pub view : (ended : Bool) (t : Token) (after : List ℕ) → IsToken t → IsEnded t ended after → View ended t after
view ended Open after h e = opens after
view ended Close after h e = closes after
view ended (Atomic Quoted bs) after h e = subst (λ (l : List ℕ). View ended (Atomic Quoted l) after) (sym h.1) (bars h.0 after h.2)
view ended (Atomic Literal bs) after h e = subst (λ (l : List ℕ). View ended (Atomic Literal l) after) (sym h.1) (quotes h.0 after h.2 e)
view ended (Atomic Numeral bs) after h e = plain Numeral bs after h.0 h.1 e
view ended (Atomic Decimal bs) after h e = plain Decimal bs after h.0 h.1 e
view ended (Atomic Hexadecimal bs) after h e = plain Hexadecimal bs after h.0 h.1 e
view ended (Atomic Binary bs) after h e = plain Binary bs after h.0 h.1 e
view ended (Atomic Symbol bs) after h e = plain Symbol bs after h.0 h.1 e
view ended (Atomic Keyword bs) after h e = plain Keyword bs after h.0 h.1 e

pub border_parts : (b : ℕ) → is_border b ≡ false → (is_white b ≡ false) × ((b == 59) ≡ false)
border_parts b e =
    let s1 = or_parts (is_white b || b == 59 || b == 40 || b == 41 || b == 34) (b == 124) e in
    let s2 = or_parts (is_white b || b == 59 || b == 40 || b == 41) (b == 34) s1.0 in
    let s3 = or_parts (is_white b || b == 59 || b == 40) (b == 41) s2.0 in
    let s4 = or_parts (is_white b || b == 59) (b == 40) s3.0 in
    or_parts (is_white b) (b == 59) s4.0

-- a token is no white space and no comment
pub skip-token : (ended : Bool) (t : Token) (after : List ℕ) → View ended t after → skip false (text t ++ after) ≡ text t ++ after
skip-token ended t after (opens a) = refl
skip-token ended t after (closes a) = refl
skip-token ended t after (bars body a h) = refl
skip-token ended t after (quotes content a lit_content h) = refl
skip-token ended t after (plain kind bs a run h e) =
    let f = run_first bs run in
    let parts = border_parts f.0 f.3 in
    ap (λ (l : List ℕ). skip false (l ++ after)) f.2 ∙ skip-stays f.0 (f.1 ++ after) parts.0 parts.1 ∙ ap (λ (l : List ℕ). l ++ after) (sym f.2)
