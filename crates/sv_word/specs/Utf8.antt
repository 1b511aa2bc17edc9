-- UTF-8 (RFC 3629; the Unicode Standard, table 3-7, well-formed byte sequences).
use Rattle.std.specs.Char.{IsScalar, encode_utf8}
use Rattle.std.specs.Prelude.{◌≡◌, ◌≤◌, suc, ◌++◌, length, if◌then◌else◌, ◌==◌, ◌&&◌, ◌+◌, ◌-◌, ◌*◌, ℕ, Bool, nat_le, List, [], ◌∷◌, Option, Some, None}

abbrev pub is_within : ℕ → ℕ → ℕ → Bool
is_within low high b = nat_le low b && nat_le b high

-- a code point of two bytes, of which the first is `a`, with their number
abbrev pub two_bytes : ℕ → List ℕ → Option (ℕ × ℕ)
two_bytes a [] = None
two_bytes a (b ∷ bs) = if is_within 0x80 0xBF b then Some ((a - 0xC0) * 0x40 + (b - 0x80), 2) else None

-- a code point of three bytes, of which the first is `a` and the second goes from `low` to `high`
abbrev pub three_bytes : ℕ → ℕ → ℕ → List ℕ → Option (ℕ × ℕ)
three_bytes low high a [] = None
three_bytes low high a (b ∷ []) = None
three_bytes low high a (b ∷ c ∷ bs) =
    if is_within low high b && is_within 0x80 0xBF c then Some ((a - 0xE0) * 0x1000 + (b - 0x80) * 0x40 + (c - 0x80), 3) else None

-- a code point of four bytes, of which the first is `a` and the second goes from `low` to `high`
abbrev pub four_bytes : ℕ → ℕ → ℕ → List ℕ → Option (ℕ × ℕ)
four_bytes low high a [] = None
four_bytes low high a (b ∷ []) = None
four_bytes low high a (b ∷ c ∷ []) = None
four_bytes low high a (b ∷ c ∷ d ∷ bs) =
    if is_within low high b && (is_within 0x80 0xBF c && is_within 0x80 0xBF d)
    then Some ((a - 0xF0) * 0x40000 + (b - 0x80) * 0x1000 + (c - 0x80) * 0x40 + (d - 0x80), 4) else None

-- the code point from 0x80 on at the front of the bytes `a` and `bs`, and the number of its bytes
abbrev pub code_point : ℕ → List ℕ → Option (ℕ × ℕ)
code_point a bs =
    if is_within 0xC2 0xDF a then two_bytes a bs
    else (if a == 0xE0 then three_bytes 0xA0 0xBF a bs
    else (if is_within 0xE1 0xEC a then three_bytes 0x80 0xBF a bs
    else (if a == 0xED then three_bytes 0x80 0x9F a bs
    else (if is_within 0xEE 0xEF a then three_bytes 0x80 0xBF a bs
    else (if a == 0xF0 then four_bytes 0x90 0xBF a bs
    else (if is_within 0xF1 0xF3 a then four_bytes 0x80 0xBF a bs
    else (if a == 0xF4 then four_bytes 0x80 0x8F a bs
    else None)))))))

-- the bytes `a` and `bs` begin with the UTF-8 of the code point `c`, `n` bytes long
pub record BeginsWith (a : ℕ) (bs : List ℕ) (c n : ℕ) : Type 0 where
  pub scalar : IsScalar c
  pub high : 0x80 ≤ c
  pub more : List ℕ
  pub rest : List ℕ
  pub written : encode_utf8 c ≡ a ∷ more
  pub split : bs ≡ more ++ rest
  pub len : n ≡ suc (length more)
