-- The word of a literal is a word.
use Rattle.std.proofs.Common.{◌≡◌, ℕ, zero, suc, ◌+◌, ◌^◌, ◌<◌, ◌≤◌, ◌-◌, Bool, true, false, ◌&&◌, IsTrue, nat_le, cond, List, [], ◌∷◌, length, take, drop, Option, Some, None, Result, Ok, Err, refl, arith}
use Rattle.std.specs.Prelude.{◌==◌, nat_lt, slice_index, unwrap_or}
use Rattle.std.proofs.Math.Nat.{pow-le-pow_right}
use Rattle.std.proofs.lemmas.Bool.Decides.{nat_tests}
use Rattle.std.proofs.lemmas.Int.Digits.{digits_value-lt}
use Rattle.std.specs.Str.Parse.{digits_value}
use Rattle.std.proofs.lemmas.Bool.{cond_both, and_from}
use Rattle.sv_word.specs.declared.literal_fault.LiteralFault.{LiteralFault}
use Rattle.sv_word.specs.declared.literal_fault.LiteralFault.TheVariants as v
use Rattle.sv_word.specs.Literals.{lit, lit_from, front_of, followed_by, prepended, quote_of, escape_of, number_of, braced_digits, four_digits, character_of, hex_len, quote, backslash, letter_u, open_brace, close_brace}
use Rattle.sv_word.specs.Utf8.{is_within, code_point}
use Rattle.sv_word.specs.Words.{greatest_character}
use Rattle.sv_word.proofs.HexLemmas.{hex-digits}
use Rattle.sv_terms.specs.Matches.{is_word}
use Rattle.smt_names.specs.Tokens.{literal_word, read_word}

-- a character and the number of its bytes, if they are there
abbrev IsCharacter : ℕ × ℕ → Type 0
IsCharacter f = IsTrue (nat_le f.0 greatest_character)

abbrev GivesCharacter : Result (ℕ × ℕ) LiteralFault → Type 0
GivesCharacter (Ok f) = IsCharacter f
GivesCharacter (Err e) = Unit {0}

abbrev MayBeCharacter : Option (ℕ × ℕ) → Type 0
MayBeCharacter (Some f) = IsCharacter f
MayBeCharacter None = Unit {0}

length-four : (n : ℕ) (bs : List ℕ) → length (take n bs) ≤ n
length-four zero bs = omega arith
length-four (suc n) [] = omega arith
length-four (suc n) (b ∷ bs) = let k = length-four n bs in omega arith

-- four digits write a character
four-below : (bs : List ℕ) → nat_le 4 (hex_len bs) ≡ true → IsTrue (nat_le (digits_value 16 (take 4 bs)) greatest_character)
four-below bs e =
    let le : 4 ≤ hex_len bs = grind (arith, nat_tests) in
    let lt = digits_value-lt 16 (take 4 bs) (hex-digits 4 bs le) in
    let up : 16 ^ length (take 4 bs) ≤ 16 ^ 4 = pow-le-pow_right (omega arith) (length-four 4 bs) in
    let fits : digits_value 16 (take 4 bs) ≤ greatest_character = omega arith in
    grind (arith, nat_tests)

last-of : (a b c : Bool) → (a && (b && c)) ≡ true → c ≡ true
last-of true true c e = e
last-of true false c e = cc
last-of false b c e = cc

four : (bs : List ℕ) → MayBeCharacter (four_digits bs)
four bs = cond_both (nat_le 4 (hex_len bs)) (Some (digits_value 16 (take 4 bs), 6)) None MayBeCharacter (four-below bs) (λ _. tt)

braced : (bs : List ℕ) → MayBeCharacter (braced_digits bs)
braced bs = cond_both (is_within 1 5 (hex_len bs) && (slice_index bs (hex_len bs) == close_brace && nat_le (digits_value 16 (take (hex_len bs) bs)) greatest_character)) (Some (digits_value 16 (take (hex_len bs) bs), hex_len bs + 4)) None MayBeCharacter
    (λ e. last-of (is_within 1 5 (hex_len bs)) (slice_index bs (hex_len bs) == close_brace) (nat_le (digits_value 16 (take (hex_len bs) bs)) greatest_character) e) (λ _. tt)

number : (bs : List ℕ) → MayBeCharacter (number_of bs)
number [] = tt
number (b ∷ bs) = cond_both (b == open_brace) (braced_digits bs) (four_digits (b ∷ bs)) MayBeCharacter (λ _. braced bs) (λ _. four (b ∷ bs))

escape : (bs : List ℕ) → MayBeCharacter (escape_of bs)
escape [] = tt
escape (b ∷ bs) = cond_both (b == letter_u) (number_of bs) None MayBeCharacter (λ _. number bs) (λ _. tt)

or-backslash : (o : Option (ℕ × ℕ)) → MayBeCharacter o → IsCharacter (unwrap_or o (backslash, 1))
or-backslash (Some f) h = h
or-backslash None h = refl

a-quote : (place : ℕ) (bs : List ℕ) → GivesCharacter (quote_of place bs)
a-quote place [] = tt
a-quote place (b ∷ bs) = cond_both (b == quote) (Ok (quote, 2)) (Err (v.Quote place)) GivesCharacter (λ _. refl) (λ _. tt)

small : (b : ℕ) → nat_lt b 0x80 ≡ true → IsTrue (nat_le b greatest_character)
small b e = let lt : b < 0x80 = grind (arith, nat_tests) in let le : b ≤ greatest_character = omega arith in grind (arith, nat_tests)

coded : (place : ℕ) (o : Option (ℕ × ℕ)) → GivesCharacter (character_of place o)
coded place None = tt
coded place (Some f) = cond_both (nat_le f.0 greatest_character) (Ok f) (Err (v.Above place)) GivesCharacter (λ e. e) (λ _. tt)

front : (place b : ℕ) (bs : List ℕ) → GivesCharacter (front_of place b bs)
front place b bs =
    cond_both (b == quote) (quote_of place bs) (cond (b == backslash) (Ok (unwrap_or (escape_of bs) (backslash, 1))) (cond (nat_lt b 0x80) (Ok (b, 1)) (character_of place (code_point b bs)))) GivesCharacter (λ _. a-quote place bs)
    (λ _. cond_both (b == backslash) (Ok (unwrap_or (escape_of bs) (backslash, 1))) (cond (nat_lt b 0x80) (Ok (b, 1)) (character_of place (code_point b bs))) GivesCharacter (λ _. or-backslash (escape_of bs) (escape bs))
    (λ _. cond_both (nat_lt b 0x80) (Ok (b, 1)) (character_of place (code_point b bs)) GivesCharacter (small b) (λ _. coded place (code_point b bs))))

abbrev GivesWord : Result (List ℕ) LiteralFault → Type 0
GivesWord (Ok w) = IsTrue (is_word w)
GivesWord (Err e) = Unit {0}

prepend : (c : ℕ) (r : Result (List ℕ) LiteralFault) → IsTrue (nat_le c greatest_character) → GivesWord r → GivesWord (prepended c r)
prepend c (Ok w) h g = and_from (nat_le c greatest_character) (is_word w) h g
prepend c (Err e) h g = tt

follow : (f : Result (ℕ × ℕ) LiteralFault) (rest : ℕ → Result (List ℕ) LiteralFault) → GivesCharacter f → ((n : ℕ) → GivesWord (rest n)) → GivesWord (followed_by f rest)
follow (Ok f) rest h g = prepend f.0 (rest (f.1 - 1)) h (g (f.1 - 1))
follow (Err e) rest h g = tt

from : (place skip : ℕ) (bs : List ℕ) → GivesWord (lit_from place skip bs)
from place skip [] = refl
from place zero (b ∷ bs) = follow (front_of place b bs) (λ n. lit_from (place + 1) n bs) (front place b bs) (λ n. from (place + 1) n bs)
from place (suc skip) (b ∷ bs) = from (place + 1) skip bs

abbrev pub MayBeWord : Option (List ℕ) → Type 0
MayBeWord (Some w) = IsTrue (is_word w)
MayBeWord None = Unit {0}

read : (r : Result (List ℕ) LiteralFault) → GivesWord r → MayBeWord (read_word r)
read (Ok w) h = h
read (Err e) h = tt

pub literal-word : (text : List ℕ) → MayBeWord (literal_word text)
literal-word text = read (lit (take (length text - 2) (drop 1 text))) (from 0 0 (take (length text - 2) (drop 1 text)))
