-- What is printed is lexed as the tokens that it was printed from.
use Rattle.std.proofs.Common.{◌≡◌, ℕ, List, [], ◌∷◌, ◌++◌, Bool, refl, sym, ap, ◌∙◌, subst, append_assoc, map}
use Rattle.std.specs.List.{flat_map}
use Rattle.sexpr_reader.specs.declared.kind.TokenKind.{TokenKind}
use Rattle.sexpr_reader.specs.declared.kind.TokenKind.TheVariants.{Numeral, Decimal, Hexadecimal, Binary, Symbol, Quoted, Keyword, Literal}
use Rattle.sexpr_reader.specs.declared.sexpr.Sexpr.{Sexpr, roll-Sexpr}
use Rattle.sexpr_reader.specs.declared.sexpr.Sexpr.TheFolds.{ind-Sexpr, map-Sexpr}
use Rattle.sexpr_reader.specs.declared.sexpr.Sexpr.TheOpen.{Sexpr-F}
use Rattle.sexpr_reader.specs.declared.sexpr.Sexpr.TheVariants as s
use Rattle.sexpr_reader.specs.Tokens.{Token, Open, Close, Atomic}
use Rattle.sexpr_reader.specs.Lexes.{none, white, IsEnded, Lexes}
use Rattle.sexpr_reader.specs.Items.{tokens_of, tokens_of_all, tokens_layer, AreTokens}
use Rattle.sexpr_reader.proofs.Formed.{tokens_front, tokens_back}
use Rattle.sexpr_reader.proofs.Lasts.{tokens_roll, some_tokens}
use Rattle.sexpr_reader.proofs.Nests.{tokens_of-List}
use Rattle.sexpr_print.specs.Printed.{spaced, printed, printed_layer}
use Rattle.sexpr_print.proofs.Opened.{printed-roll, printed-List}

-- bytes that begin with what stands behind a printed item: a space, a parenthesis that closes, or the end of a line
pub data IsDivided : List ℕ → Type 0 where
  space : (rest : List ℕ) → IsDivided (32 ∷ rest)
  close : (rest : List ℕ) → IsDivided (41 ∷ rest)
  line : (rest : List ℕ) → IsDivided (10 ∷ rest)

ended_by : (kind : TokenKind) (bs : List ℕ) (ended : Bool) (more : List ℕ) → IsDivided more → IsEnded (Atomic kind bs) ended more
ended_by Numeral bs ended more (space rest) = refl
ended_by Numeral bs ended more (close rest) = refl
ended_by Numeral bs ended more (line rest) = refl
ended_by Decimal bs ended more (space rest) = refl
ended_by Decimal bs ended more (close rest) = refl
ended_by Decimal bs ended more (line rest) = refl
ended_by Hexadecimal bs ended more (space rest) = refl
ended_by Hexadecimal bs ended more (close rest) = refl
ended_by Hexadecimal bs ended more (line rest) = refl
ended_by Binary bs ended more (space rest) = refl
ended_by Binary bs ended more (close rest) = refl
ended_by Binary bs ended more (line rest) = refl
ended_by Symbol bs ended more (space rest) = refl
ended_by Symbol bs ended more (close rest) = refl
ended_by Symbol bs ended more (line rest) = refl
ended_by Quoted bs ended more h = tt
ended_by Keyword bs ended more (space rest) = refl
ended_by Keyword bs ended more (close rest) = refl
ended_by Keyword bs ended more (line rest) = refl
ended_by Literal bs ended more (space rest) = refl
ended_by Literal bs ended more (close rest) = refl
ended_by Literal bs ended more (line rest) = refl

-- white space before a token is passed over
pub Lexes-space : (ended : Bool) (bytes : List ℕ) (ts : List Token) (rest : List ℕ) → (ts ≡ [] → ⊥) → Lexes ended bytes ts rest → Lexes ended (32 ∷ bytes) ts rest
Lexes-space ended bytes [] rest some h = absurd (some refl)
Lexes-space ended bytes (t ∷ ts) rest some h = (32 ∷ h.0, h.1, white refl h.2, ap (λ (l : List ℕ). 32 ∷ l) h.3, h.4, h.5, h.6)

pub Lexes-line : (ended : Bool) (bytes : List ℕ) (ts : List Token) (rest : List ℕ) → (ts ≡ [] → ⊥) → Lexes ended bytes ts rest → Lexes ended (10 ∷ bytes) ts rest
Lexes-line ended bytes [] rest some h = absurd (some refl)
Lexes-line ended bytes (t ∷ ts) rest some h = (10 ∷ h.0, h.1, white refl h.2, ap (λ (l : List ℕ). 10 ∷ l) h.3, h.4, h.5, h.6)

-- the text before other bytes is lexed as the tokens before those of the bytes
abbrev pub LexesAs : List ℕ → List Token → Type 0
LexesAs text toks = (ended : Bool) (more : List ℕ) (ts : List Token) (rest : List ℕ) → AreTokens toks → IsDivided more → Lexes ended more ts rest → Lexes ended (text ++ more) (toks ++ ts) rest

abbrev Good : Type 0
Good = (r : Sexpr) × LexesAs (printed r) (tokens_of r)

abbrev bare : List Good → List Sexpr
bare ys = map (λ (y : Good). y.0) ys

abbrev texts : List Good → List (List ℕ)
texts ys = map printed (bare ys)

abbrev inner : List Good → List Token
inner ys = flat_map (λ (ts : List Token). ts) (map tokens_of (bare ys))

some_front : (us vs : List Token) → us ++ vs ≡ [] → us ≡ []
some_front [] vs e = refl
some_front (u ∷ us) vs e = cc

pub some_item : (item : Sexpr) (us vs : List Token) → (tokens_of item ++ us) ++ vs ≡ [] → ⊥
some_item item us vs e = some_tokens item (some_front (tokens_of item) us (some_front (tokens_of item ++ us) vs e))

lexes_spaced : (ys : List Good) → LexesAs (spaced (texts ys)) (inner ys)
lexes_spaced [] ended more ts rest are divided h = h
lexes_spaced (y ∷ []) ended more ts rest are divided h =
    subst (λ (l : List Token). Lexes ended (printed y.0 ++ more) l rest) (sym (append_assoc (tokens_of y.0) [] ts))
    (y.1 ended more ts rest (tokens_front (tokens_of y.0) [] are) divided h)
lexes_spaced (y ∷ z ∷ ys) ended more ts rest are divided h =
    let later = lexes_spaced (z ∷ ys) ended more ts rest (tokens_back (tokens_of y.0) (inner (z ∷ ys)) are) divided h in
    let apart = Lexes-space ended (spaced (texts (z ∷ ys)) ++ more) (inner (z ∷ ys) ++ ts) rest (some_item z.0 (inner ys) ts) later in
    let whole = y.1 ended (32 ∷ (spaced (texts (z ∷ ys)) ++ more)) (inner (z ∷ ys) ++ ts) rest (tokens_front (tokens_of y.0) (inner (z ∷ ys)) are) (space _) apart in
    subst (λ (b : List ℕ). Lexes ended b ((tokens_of y.0 ++ inner (z ∷ ys)) ++ ts) rest) (sym (append_assoc (printed y.0) (32 ∷ spaced (texts (z ∷ ys))) more))
    (subst (λ (l : List Token). Lexes ended (printed y.0 ++ (32 ∷ (spaced (texts (z ∷ ys)) ++ more))) l rest) (sym (append_assoc (tokens_of y.0) (inner (z ∷ ys)) ts)) whole)

-- a list ends with its last byte
lexes_list : (ys : List Good) (ended : Bool) (more : List ℕ) (ts : List Token) (rest : List ℕ) → AreTokens (inner ys ++ Close ∷ []) → Lexes ended more ts rest
    → Lexes ended ((40 ∷ (spaced (texts ys) ++ 41 ∷ [])) ++ more) ((Open ∷ (inner ys ++ Close ∷ [])) ++ ts) rest
lexes_list ys ended more ts rest are h =
    let closed : Lexes ended (41 ∷ more) (Close ∷ ts) rest = ([], more, none, refl, tt, tt, h) in
    let within = lexes_spaced ys ended (41 ∷ more) (Close ∷ ts) rest (tokens_front (inner ys) (Close ∷ []) are) (close more) closed in
    let behind = subst (λ (b : List ℕ). Lexes ended b ((inner ys ++ Close ∷ []) ++ ts) rest) (sym (append_assoc (spaced (texts ys)) (41 ∷ []) more))
    (subst (λ (l : List Token). Lexes ended (spaced (texts ys) ++ (41 ∷ more)) l rest) (sym (append_assoc (inner ys) (Close ∷ []) ts)) within) in
    ([], (spaced (texts ys) ++ 41 ∷ []) ++ more, none, refl, tt, tt, behind)

layer_lexes : (y : Sexpr-F Good) → LexesAs (printed_layer (map-Sexpr Sexpr (List ℕ) printed (map-Sexpr Good Sexpr (λ e. e.0) y))) (tokens_layer (map-Sexpr Sexpr (List Token) tokens_of (map-Sexpr Good Sexpr (λ e. e.0) y)))
layer_lexes (Sexpr-F.Atom kind bs) ended more ts rest are divided h = ([], more, none, refl, are.0, ended_by kind bs ended more divided, h)
layer_lexes (Sexpr-F.List ys) ended more ts rest are divided h = lexes_list ys ended more ts rest are.1 h

roll_lexes : (x : Sexpr-F Sexpr) (y : Sexpr-F Good) → map-Sexpr Good Sexpr (λ e. e.0) y ≡ x → LexesAs (printed (roll-Sexpr x)) (tokens_of (roll-Sexpr x))
roll_lexes x y is =
    subst (λ (text : List ℕ). LexesAs text (tokens_of (roll-Sexpr x))) (sym (printed-roll x))
    (subst (λ (toks : List Token). LexesAs (printed_layer (map-Sexpr Sexpr (List ℕ) printed x)) toks) (sym (tokens_roll x))
    (subst (λ (z : Sexpr-F Sexpr). LexesAs (printed_layer (map-Sexpr Sexpr (List ℕ) printed z)) (tokens_layer (map-Sexpr Sexpr (List Token) tokens_of z))) is (layer_lexes y)))

pub item_lexes : (item : Sexpr) → LexesAs (printed item) (tokens_of item)
item_lexes = ind-Sexpr (λ r. LexesAs (printed r) (tokens_of r)) roll_lexes

-- the same of each
abbrev good : List Sexpr → List Good
good [] = []
good (item ∷ items) = (item, item_lexes item) ∷ good items

good_bare : (items : List Sexpr) → bare (good items) ≡ items
good_bare [] = refl
good_bare (item ∷ items) = ap (λ (l : List Sexpr). item ∷ l) (good_bare items)

inner_all : (items : List Sexpr) → flat_map (λ (ts : List Token). ts) (map tokens_of items) ≡ tokens_of_all items
inner_all [] = refl
inner_all (item ∷ items) = ap (λ (l : List Token). tokens_of item ++ l) (inner_all items)

-- a printed list, whatever stands behind it
pub list_lexes : (items : List Sexpr) (ended : Bool) (more : List ℕ) → AreTokens (tokens_of (s.List items)) → Lexes ended (printed (s.List items) ++ more) (tokens_of (s.List items) ++ []) more
list_lexes items ended more are =
    let tokens : Open ∷ (inner (good items) ++ Close ∷ []) ≡ tokens_of (s.List items) = ap (λ (l : List Sexpr). Open ∷ (flat_map (λ (ts : List Token). ts) (map tokens_of l) ++ Close ∷ [])) (good_bare items) ∙ ap (λ (l : List Token). Open ∷ (l ++ Close ∷ [])) (inner_all items) ∙ sym (tokens_of-List items) in
    let text : 40 ∷ (spaced (texts (good items)) ++ 41 ∷ []) ≡ printed (s.List items) = ap (λ (l : List Sexpr). 40 ∷ (spaced (map printed l) ++ 41 ∷ [])) (good_bare items) ∙ sym (printed-List items) in
    let formed : AreTokens (Open ∷ (inner (good items) ++ Close ∷ [])) = subst AreTokens (sym tokens) are in
    subst (λ (b : List ℕ). Lexes ended (b ++ more) (tokens_of (s.List items) ++ []) more) text
    (subst (λ (l : List Token). Lexes ended ((40 ∷ (spaced (texts (good items)) ++ 41 ∷ [])) ++ more) (l ++ []) more) tokens (lexes_list (good items) ended more [] more formed.1 refl))
