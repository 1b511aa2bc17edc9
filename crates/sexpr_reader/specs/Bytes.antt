-- The classes of bytes in the lexicon of SMT-LIB 2.6 (section 3.1), by their ASCII numbers.
use Rattle.std.specs.Prelude.{ℕ, ◌==◌, ◌||◌, ◌&&◌, nat_le, Bool}

-- what ends a comment: LF or CR
abbrev pub is_line_end : ℕ → Bool
is_line_end b = b == 10 || b == 13

-- white space: LF, CR, tab, space
abbrev pub is_white : ℕ → Bool
is_white b = is_line_end b || (b == 9 || b == 32)

-- what ends a token in front of it: white space, ; ( ) " |
abbrev pub is_border : ℕ → Bool
is_border b = is_white b || b == 59 || b == 40 || b == 41 || b == 34 || b == 124

-- 0 to 9
abbrev pub is_digit : ℕ → Bool
is_digit b = nat_le 48 b && nat_le b 57

-- 0 to 9, A to F, a to f
abbrev pub is_hexadecimal : ℕ → Bool
is_hexadecimal b = is_digit b || (nat_le 65 b && nat_le b 70) || (nat_le 97 b && nat_le b 102)

-- 0 or 1
abbrev pub is_bit : ℕ → Bool
is_bit b = b == 48 || b == 49

-- letters, digits and ~ ! @ $ % ^ & * _ - + = < > . ? /
abbrev pub is_symbol_byte : ℕ → Bool
is_symbol_byte b = is_digit b || (nat_le 65 b && nat_le b 90) || (nat_le 97 b && nat_le b 122)
    || b == 126 || b == 33 || b == 64 || b == 36 || b == 37 || b == 94 || b == 38 || b == 42 || b == 95
    || b == 45 || b == 43 || b == 61 || b == 60 || b == 62 || b == 46 || b == 63 || b == 47
