-- String literals: the word of the bytes between a literal's quotes (SMT-LIB 2.6, section 3.1; theory UnicodeStrings, string literals).
use Rattle.std.specs.Char.{is_ascii_hexdigit}
use Rattle.std.specs.List.{prefix_len, flat_map}
use Rattle.std.specs.Fmt.{digits}
use Rattle.std.specs.Prelude.{if◌then◌else◌, ◌==◌, ◌&&◌, not, ◌+◌, ◌-◌, ℕ, false, nat_lt, nat_le, zero, suc, List, [], ◌∷◌, ◌++◌, take, slice_index, unwrap_or, Option, Some, None, Result, Ok, Err}
use Rattle.std.specs.Str.Parse.{digits_value}
use Rattle.sv_word.specs.declared.literal_fault.LiteralFault.{LiteralFault}
use Rattle.sv_word.specs.declared.literal_fault.LiteralFault.TheVariants.{Quote, Utf8, Above}
use Rattle.sv_word.specs.Utf8.{is_within, code_point}
use Rattle.sv_word.specs.Words.{greatest_character}

abbrev pub quote : ℕ
quote = 0x22

abbrev pub backslash : ℕ
backslash = 0x5C

abbrev pub letter_u : ℕ
letter_u = 0x75

abbrev pub open_brace : ℕ
open_brace = 0x7B

abbrev pub close_brace : ℕ
close_brace = 0x7D

-- how many hexadecimal digits, of either case, stand at the front
abbrev pub hex_len : List ℕ → ℕ
hex_len bs = prefix_len is_ascii_hexdigit bs

-- `\u` and four digits: the character, and the number of bytes of the whole escape
abbrev pub four_digits : List ℕ → Option (ℕ × ℕ)
four_digits bs = if nat_le 4 (hex_len bs) then Some (digits_value 16 (take 4 bs), 6) else None

-- `\u{`, one to five digits that write a character, and `}`: the character, and the number of bytes of the whole escape
abbrev pub braced_digits : List ℕ → Option (ℕ × ℕ)
braced_digits bs =
    if is_within 1 5 (hex_len bs) && (slice_index bs (hex_len bs) == close_brace && nat_le (digits_value 16 (take (hex_len bs) bs)) greatest_character)
    then Some (digits_value 16 (take (hex_len bs) bs), hex_len bs + 4) else None

-- what stands behind `\u`
abbrev pub number_of : List ℕ → Option (ℕ × ℕ)
number_of [] = None
number_of (b ∷ bs) = if b == open_brace then braced_digits bs else four_digits (b ∷ bs)

-- what stands behind a backslash: the character, and the number of bytes with the backslash, if they are an escape
abbrev pub escape_of : List ℕ → Option (ℕ × ℕ)
escape_of [] = None
escape_of (b ∷ bs) = if b == letter_u then number_of bs else None

-- a quote stands for one where a second one follows
abbrev pub quote_of : ℕ → List ℕ → Result (ℕ × ℕ) LiteralFault
quote_of place [] = Err (Quote place)
quote_of place (b ∷ bs) = if b == quote then Ok (quote, 2) else Err (Quote place)

-- a code point, if there is one, is a character up to 0x2FFFF
abbrev pub character_of : ℕ → Option (ℕ × ℕ) → Result (ℕ × ℕ) LiteralFault
character_of place None = Err (Utf8 place)
character_of place (Some f) = if nat_le f.0 greatest_character then Ok f else Err (Above place)

-- the first character of the bytes `b` and `bs`, and how many of them it takes; or the fault that begins with `b`, which stands at `place`
abbrev pub front_of : ℕ → ℕ → List ℕ → Result (ℕ × ℕ) LiteralFault
front_of place b bs =
    if b == quote then quote_of place bs
    else (if b == backslash then Ok (unwrap_or (escape_of bs) (backslash, 1))
    else (if nat_lt b 0x80 then Ok (b, 1)
    else character_of place (code_point b bs)))

-- a word with a character before it, or its fault
abbrev pub prepended : ℕ → Result (List ℕ) LiteralFault → Result (List ℕ) LiteralFault
prepended c (Ok w) = Ok (c ∷ w)
prepended c (Err f) = Err f

-- a character and the word behind the bytes that it takes, of which the first is gone
abbrev pub followed_by : Result (ℕ × ℕ) LiteralFault → (ℕ → Result (List ℕ) LiteralFault) → Result (List ℕ) LiteralFault
followed_by (Ok f) rest = prepended f.0 (rest (f.1 - 1))
followed_by (Err f) rest = Err f

-- the word of bytes that begin at `place`, of which the first `skip` belong to a character read before; or the first fault from the left
abbrev pub lit_from : ℕ → ℕ → List ℕ → Result (List ℕ) LiteralFault
lit_from place skip [] = Ok []
lit_from place zero (b ∷ bs) = followed_by (front_of place b bs) (λ skip. lit_from (place + 1) skip bs)
lit_from place (suc skip) (b ∷ bs) = lit_from (place + 1) skip bs

-- the word that the bytes between a literal's outer quotes stand for, or the first fault from the left
abbrev pub lit : List ℕ → Result (List ℕ) LiteralFault
lit bs = lit_from 0 0 bs

-- a character in a literal: a quote is doubled; others from 0x20 to 0x7E stand for themselves, but a backslash; the rest is `\u{h}` with the fewest lower-case digits
abbrev pub shown : ℕ → List ℕ
shown c =
    if c == quote then quote ∷ quote ∷ []
    else (if is_within 0x20 0x7E c && not (c == backslash) then c ∷ []
    else backslash ∷ letter_u ∷ open_brace ∷ (digits 16 false c ++ close_brace ∷ []))

-- a word as it stands between a literal's quotes
abbrev pub spelled : List ℕ → List ℕ
spelled w = flat_map shown w

-- a word as a literal
abbrev pub printed : List ℕ → List ℕ
printed w = quote ∷ (spelled w ++ quote ∷ [])
