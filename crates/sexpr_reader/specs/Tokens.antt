-- The tokens of a script (SMT-LIB 2.6, section 3.1).
use Rattle.std.specs.Prelude.{◌≡◌, ℕ, ◌==◌, ◌||◌, ◌&&◌, not, List, [], ◌∷◌, ◌++◌, Bool, false, if◌then◌else◌, IsTrue, is_ok}
use Rattle.std.specs.List.{list_all}
use Rattle.sexpr_reader.specs.declared.kind.TokenKind.{TokenKind}
use Rattle.sexpr_reader.specs.declared.kind.TokenKind.TheVariants.{Numeral, Decimal, Hexadecimal, Binary, Symbol, Quoted, Keyword, Literal}
use Rattle.sv_word.specs.Literals.{lit}
use Rattle.sexpr_reader.specs.Bytes.{is_border, is_digit, is_hexadecimal, is_bit, is_symbol_byte}

-- one or more bytes that pass
abbrev pub are_some : (ℕ → Bool) → List ℕ → Bool
are_some p [] = false
are_some p (b ∷ bs) = p b && list_all p bs

-- 0, or digits that don't begin with 0
abbrev pub is_numeral : List ℕ → Bool
is_numeral [] = false
is_numeral (b ∷ []) = is_digit b
is_numeral (b ∷ c ∷ bs) = not (b == 48) && list_all is_digit (b ∷ c ∷ bs)

-- one or more bytes of symbols that don't begin with a digit
abbrev pub is_symbol : List ℕ → Bool
is_symbol [] = false
is_symbol (b ∷ bs) = not (is_digit b) && list_all is_symbol_byte (b ∷ bs)

-- `:` and a symbol
abbrev pub is_keyword : List ℕ → Bool
is_keyword [] = false
is_keyword (b ∷ bs) = b == 58 && is_symbol bs

-- the bytes with each quote doubled
abbrev pub doubled : List ℕ → List ℕ
doubled [] = []
doubled (b ∷ bs) = if b == 34 then 34 ∷ 34 ∷ doubled bs else b ∷ doubled bs

-- bytes that may stand between bars: neither `|` nor `\`
abbrev pub is_barred : List ℕ → Bool
is_barred bs = list_all (λ b. not (b == 124 || b == 92)) bs

-- bytes between a literal's quotes that are the text of a word
abbrev pub is_readable : List ℕ → Bool
is_readable bs = is_ok (lit bs)

-- one or more bytes of which none ends a token
abbrev pub IsTokenRun : List ℕ → Type 0
IsTokenRun bs = IsTrue (are_some (λ b. not (is_border b)) bs)

-- the runs that are tokens, by their kind
abbrev pub IsPlain : TokenKind → List ℕ → Type 0
IsPlain Numeral bs = IsTrue (is_numeral bs)
IsPlain Decimal bs = (whole part : List ℕ) × (bs ≡ whole ++ 46 ∷ part) × IsTrue (is_numeral whole) × IsTrue (are_some is_digit part)
IsPlain Hexadecimal bs = (digits : List ℕ) × (bs ≡ 35 ∷ 120 ∷ digits) × IsTrue (are_some is_hexadecimal digits)
IsPlain Binary bs = (digits : List ℕ) × (bs ≡ 35 ∷ 98 ∷ digits) × IsTrue (are_some is_bit digits)
IsPlain Symbol bs = IsTrue (is_symbol bs)
IsPlain Keyword bs = IsTrue (is_keyword bs)
IsPlain Quoted bs = ⊥
IsPlain Literal bs = ⊥

-- `|`, bytes without `|` and `\`, `|`
abbrev pub IsQuoted : List ℕ → Type 0
IsQuoted bs = (body : List ℕ) × (bs ≡ 124 ∷ body ++ 124 ∷ []) × IsTrue (is_barred body)

-- `"`, bytes with each quote doubled, `"`, where the bytes between are the text of a word
abbrev pub IsLiteral : List ℕ → Type 0
IsLiteral bs = (content : List ℕ) × (bs ≡ 34 ∷ doubled content ++ 34 ∷ []) × IsTrue (is_readable (doubled content))

-- the bytes of a token of this kind
abbrev pub IsOfKind : TokenKind → List ℕ → Type 0
IsOfKind Quoted bs = IsQuoted bs
IsOfKind Literal bs = IsLiteral bs
IsOfKind kind bs = IsTokenRun bs × IsPlain kind bs

-- a parenthesis, or a token of a kind with its bytes
pub data Token : Type 0 where
  Open : Token
  Close : Token
  Atomic : TokenKind → List ℕ → Token

abbrev pub text : Token → List ℕ
text Open = 40 ∷ []
text Close = 41 ∷ []
text (Atomic kind bs) = bs

-- the bytes are those of the kind
abbrev pub IsToken : Token → Type 0
IsToken Open = Unit {0}
IsToken Close = Unit {0}
IsToken (Atomic kind bs) = IsOfKind kind bs
