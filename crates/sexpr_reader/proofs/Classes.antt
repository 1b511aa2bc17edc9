-- A run is a token of one kind.
use Rattle.std.proofs.Common.{◌≡◌, ℕ, ◌==◌, ◌&&◌, not, List, [], ◌∷◌, ◌++◌, Bool, true, false, IsTrue, if◌then◌else◌, get_or, refl, sym, ap, ◌∙◌, subst, arith, rules}
use Rattle.std.specs.List.{list_all}
use Rattle.sexpr_reader.specs.declared.kind.TokenKind.{TokenKind}
use Rattle.sexpr_reader.specs.declared.kind.TokenKind.TheVariants.{Numeral, Decimal, Hexadecimal, Binary, Symbol, Quoted, Keyword, Literal}
use Rattle.sexpr_reader.specs.Bytes.{is_digit, is_symbol_byte}
use Rattle.sexpr_reader.specs.Tokens.{is_numeral, is_symbol, is_keyword, are_some, IsPlain}
use Rattle.sexpr_reader.proofs.Determined.{same_front}
use Rattle.std.proofs.Common.{◌+◌, ◌<◌, length, take, drop, add-one, drop-cons}
use Rattle.std.proofs.lemmas.List.{take-append-drop}
use Rattle.std.proofs.lemmas.Bool.{and_from, not-true}
use Rattle.sv_list.specs.Bools.{and-first, and-second}

-- what the first byte says: a digit, a symbol's byte, a colon, a hash
class : ℕ → ℕ
class b = if is_digit b then 0 else if b == 58 then 2 else if b == 35 then 3 else 1

kind_class : TokenKind → ℕ
kind_class Numeral = 0
kind_class Decimal = 0
kind_class Symbol = 1
kind_class Keyword = 2
kind_class Hexadecimal = 3
kind_class Binary = 3
kind_class Quoted = 4
kind_class Literal = 5

class-digit : (b : ℕ) → is_digit b ≡ true → class b ≡ 0
unfolding class
class-digit b e = ap (λ (x : Bool). if x then 0 else if b == 58 then 2 else if b == 35 then 3 else 1) e

not_this : (q : Bool) (b n : ℕ) → (b == n) ≡ q → is_symbol_byte b ≡ true → is_symbol_byte n ≡ false → q ≡ false
not_this true b n e h g = let same : b ≡ n = search rules in let k : is_symbol_byte b ≡ is_symbol_byte n = ap is_symbol_byte same in cc
not_this false b n e h g = refl

class-symbol : (b : ℕ) → is_digit b ≡ false → is_symbol_byte b ≡ true → class b ≡ 1
unfolding class
class-symbol b e h =
    let k1 = not_this (b == 58) b 58 refl h refl in
    let k2 = not_this (b == 35) b 35 refl h refl in
    ap (λ (x : Bool). if x then 0 else if b == 58 then 2 else if b == 35 then 3 else 1) e ∙ ap (λ (x : Bool). if x then 2 else if b == 35 then 3 else 1) k1 ∙ ap (λ (x : Bool). if x then 3 else 1) k2

class-at : (b n k : ℕ) → b ≡ n → class n ≡ k → class b ≡ k
class-at b n k e h = ap class e ∙ h

class-58 : class 58 ≡ 2
unfolding class
class-58 = refl

class-35 : class 35 ≡ 3
unfolding class
class-35 = refl

numeral_first : (bs rest : List ℕ) → IsTrue (is_numeral bs) → class (get_or (bs ++ rest) 0 0) ≡ 0
numeral_first [] rest h = cc
numeral_first (b ∷ []) rest h = class-digit b h
numeral_first (b ∷ d ∷ bs) rest h = class-digit b (and-first (is_digit b) _ (and-second (not (b == 48)) _ h))

numeral_all : (bs : List ℕ) → IsTrue (is_numeral bs) → IsTrue (list_all is_digit bs)
numeral_all [] h = cc
numeral_all (b ∷ []) h = rw h refl
numeral_all (b ∷ d ∷ bs) h = and-second (not (b == 48)) _ h

symbol_first : (bs : List ℕ) → IsTrue (is_symbol bs) → class (get_or bs 0 0) ≡ 1
symbol_first [] h = cc
symbol_first (b ∷ bs) h = class-symbol b (not-true _ (and-first (not (is_digit b)) _ h)) (and-first (is_symbol_byte b) _ (and-second (not (is_digit b)) _ h))

is_number : (b n : ℕ) → IsTrue (b == n) → b ≡ n
is_number b n h = search rules

keyword_first : (bs : List ℕ) → IsTrue (is_keyword bs) → class (get_or bs 0 0) ≡ 2
keyword_first [] h = cc
keyword_first (b ∷ bs) h = class-at b 58 2 (is_number b 58 (and-first (b == 58) _ h)) class-58

plain_first : (k : TokenKind) (bs : List ℕ) → IsPlain k bs → class (get_or bs 0 0) ≡ kind_class k
unfolding kind_class
plain_first Numeral bs h = subst (λ (l : List ℕ). class (get_or l 0 0) ≡ 0) (append_none bs) (numeral_first bs [] h)
  where
    append_none : (l : List ℕ) → l ++ [] ≡ l
    append_none [] = refl
    append_none (x ∷ l) = ap (λ (m : List ℕ). x ∷ m) (append_none l)
plain_first Decimal bs h = ap (λ (l : List ℕ). class (get_or l 0 0)) h.2 ∙ numeral_first h.0 (46 ∷ h.1) h.3
plain_first Symbol bs h = symbol_first bs h
plain_first Keyword bs h = keyword_first bs h
plain_first Hexadecimal bs h = ap (λ (l : List ℕ). class (get_or l 0 0)) h.1 ∙ class-35
plain_first Binary bs h = ap (λ (l : List ℕ). class (get_or l 0 0)) h.1 ∙ class-35
plain_first Quoted bs h = absurd h
plain_first Literal bs h = absurd h

all_at : (q : ℕ → Bool) (xs : List ℕ) (b : ℕ) (ys : List ℕ) → IsTrue (list_all q (xs ++ b ∷ ys)) → IsTrue (q b)
all_at q [] b ys h = and-first (q b) _ h
all_at q (x ∷ xs) b ys h = all_at q xs b ys (and-second (q x) _ h)

no_dot : (bs : List ℕ) → IsPlain Numeral bs → IsPlain Decimal bs → ⊥
no_dot bs h g = let k : false ≡ true = all_at is_digit g.0 46 g.1 (subst (λ (l : List ℕ). IsTrue (list_all is_digit l)) g.2 (numeral_all bs h)) in cc

second_byte : (a b d : ℕ) (xs ys : List ℕ) → a ∷ b ∷ xs ≡ a ∷ d ∷ ys → b ≡ d
second_byte a b d xs ys e = cc

x_or_b : (bs : List ℕ) → IsPlain Hexadecimal bs → IsPlain Binary bs → ⊥
x_or_b bs h g = let e : 35 ∷ 120 ∷ h.0 ≡ 35 ∷ 98 ∷ g.0 = sym h.1 ∙ g.1 in let k : 120 ≡ 98 = second_byte 35 120 98 h.0 g.0 e in absurd (omega (arith, k))

pub kinds_apart : (k l : TokenKind) (bs : List ℕ) → IsPlain k bs → IsPlain l bs → k ≡ l
unfolding kind_class
kinds_apart Quoted l bs h g = absurd h
kinds_apart Literal l bs h g = absurd h
kinds_apart Numeral Numeral bs h g = refl
kinds_apart Decimal Decimal bs h g = refl
kinds_apart Hexadecimal Hexadecimal bs h g = refl
kinds_apart Binary Binary bs h g = refl
kinds_apart Symbol Symbol bs h g = refl
kinds_apart Keyword Keyword bs h g = refl
kinds_apart Numeral Decimal bs h g = absurd (no_dot bs h g)
kinds_apart Decimal Numeral bs h g = absurd (no_dot bs g h)
kinds_apart Hexadecimal Binary bs h g = absurd (x_or_b bs h g)
kinds_apart Binary Hexadecimal bs h g = absurd (x_or_b bs g h)
kinds_apart k l bs h g = let e : kind_class k ≡ kind_class l = sym (plain_first k bs h) ∙ plain_first l bs g in absurd (omega arith)

dot_at : (bs : List ℕ) (i : ℕ) → i < length bs → get_or bs i 0 ≡ 46 → bs ≡ take i bs ++ 46 ∷ drop (i + 1) bs
dot_at bs i h e =
    let ahead : drop i bs ≡ get_or bs i 0 ∷ drop (i + 1) bs = rw (add-one, drop-cons bs i 0) in
    sym (take-append-drop i bs) ∙ ap (λ (l : List ℕ). take i bs ++ l) (ahead ∙ ap (λ (x : ℕ). x ∷ drop (i + 1) bs) e)

digit_no_dot : (b : ℕ) (q : Bool) → (b == 46) ≡ q → IsTrue (is_digit b) → IsTrue (not q)
digit_no_dot b true e h = let same : b ≡ 46 = is_number b 46 e in let k : is_digit b ≡ is_digit 46 = ap is_digit same in cc
digit_no_dot b false e h = refl

digits_no_dot : (bs : List ℕ) → IsTrue (list_all is_digit bs) → IsTrue (list_all (λ b. not (b == 46)) bs)
digits_no_dot [] h = refl
digits_no_dot (b ∷ bs) h = and_from (not (b == 46)) _ (digit_no_dot b (b == 46) refl (and-first (is_digit b) _ h)) (digits_no_dot bs (and-second (is_digit b) _ h))

pub decimal_no : (bs : List ℕ) (i : ℕ) → i < length bs → get_or bs i 0 ≡ 46 → IsTrue (list_all (λ b. not (b == 46)) (take i bs)) → (is_numeral (take i bs) && are_some is_digit (drop (i + 1) bs)) ≡ false → IsPlain Decimal bs → ⊥
decimal_no bs i h e front k g =
    let s = same_front (λ b. b == 46) true g.0 (take i bs) (46 ∷ g.1) (46 ∷ drop (i + 1) bs) (digits_no_dot g.0 (numeral_all g.0 g.3)) front refl refl (sym g.2 ∙ dot_at bs i h e) in
    let whole : g.0 ≡ take i bs = s.0 in
    let tails : 46 ∷ g.1 ≡ 46 ∷ drop (i + 1) bs = s.1 in
    let part : g.1 ≡ drop (i + 1) bs = cc in
    let yes_whole : is_numeral (take i bs) ≡ true = subst (λ (l : List ℕ). is_numeral l ≡ true) whole g.3 in
    let yes_part : are_some is_digit (drop (i + 1) bs) ≡ true = subst (λ (l : List ℕ). are_some is_digit l ≡ true) part g.4 in
    let all : (is_numeral (take i bs) && are_some is_digit (drop (i + 1) bs)) ≡ true = and_from _ _ yes_whole yes_part in
    false_true (sym k ∙ all)
  where
    false_true : false ≡ true → ⊥
    false_true q = cc
