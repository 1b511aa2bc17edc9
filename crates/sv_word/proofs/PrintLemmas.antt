-- What is printed is read back.
use Rattle.std.proofs.Common.{◌≡◌, ℕ, zero, suc, ◌+◌, ◌-◌, ◌/◌, ◌%◌, ◌^◌, ◌<◌, ◌≤◌, ◌&&◌, Bool, true, false, not, cond, nat_lt, List, [], ◌∷◌, ◌++◌, length, drop, get_or, Ok, refl, ap, sym, ◌∙◌, append_assoc, length-append, arith}
use Rattle.std.proofs.Math.Nat.{pow-suc}
use Rattle.std.proofs.Math.Seq.{take-append_seam}
use Rattle.std.proofs.lemmas.Bool.Decides.{nat_tests}
use Rattle.std.proofs.lemmas.Fmt.{digits_is_IsNumeral}
use Rattle.std.specs.Char.{digit_value, is_ascii_hexdigit}
use Rattle.std.specs.Fmt.{digits, digits_onto, digit_glyph}
use Rattle.std.specs.Prelude.{◌==◌, unwrap_or}
use Rattle.std.specs.Str.Parse.{digits_value, AllDigits}
use Rattle.sv_word.proofs.HexLemmas.{braced-some}
use Rattle.sv_word.proofs.ReadLemmas.{lit-skip}
use Rattle.sv_word.specs.Literals.{lit, lit_from, front_of, followed_by, prepended, shown, spelled, hex_len, quote, backslash, letter_u, open_brace, close_brace}
use Rattle.sv_word.specs.Utf8.{is_within}
use Rattle.sv_word.specs.Words.{IsWord, greatest_character}

-- how many hexadecimal digits write a number below a power of 16
onto-length : (j k n : ℕ) (acc : List ℕ) → n < 16 ^ suc j → length (digits_onto (suc k) 16 false n acc) ≤ length acc + suc j
onto-length zero k n acc lt = by (n / 16 == 0) refl
  where
    by : (t : Bool) → (n / 16 == 0) ≡ t → length (cond t (digit_glyph false (n % 16) ∷ acc) (digits_onto k 16 false (n / 16) (digit_glyph false (n % 16) ∷ acc))) ≤ length acc + 1
    by true e = omega arith
    by false e = absurd (let none : n / 16 ≡ 0 = omega arith in let yes : (n / 16 == 0) ≡ true = rw none refl in cc)
onto-length (suc j) zero n acc lt = by (n / 16 == 0)
  where
    by : (t : Bool) → length (cond t (digit_glyph false (n % 16) ∷ acc) (digit_glyph false (n % 16) ∷ acc)) ≤ length acc + suc (suc j)
    by true = omega arith
    by false = omega arith
onto-length (suc j) (suc k) n acc lt = by (n / 16 == 0) (onto-length j k (n / 16) (digit_glyph false (n % 16) ∷ acc) (omega (arith, pow-suc 16 (suc j))))
  where
    more : List ℕ
    more = digits_onto (suc k) 16 false (n / 16) (digit_glyph false (n % 16) ∷ acc)

    by : (t : Bool) → length more ≤ suc (length acc) + suc j → length (cond t (digit_glyph false (n % 16) ∷ acc) more) ≤ length acc + suc (suc j)
    by true le = omega arith
    by false le = omega arith

-- the digits of a character
record AreDigitsOf (ds : List ℕ) (c : ℕ) : Type 0 where
  some : 1 ≤ length ds
  few : length ds ≤ 5
  hex : AllDigits 16 ds
  value : c ≡ digits_value 16 ds

character-digits : (c : ℕ) → c ≤ greatest_character → AreDigitsOf (digits 16 false c) c
unfolding digits
character-digits c le =
    let below : c < 16 ^ 64 = omega arith in
    let numeral = digits_is_IsNumeral 16 false (omega arith) (omega arith) c below in
    record { some = numeral.0.0; few = onto-length 4 63 c [] (omega arith); hex = numeral.0.1; value = sym numeral.1 }

digit-hex : (d : ℕ) → digit_value d < 16 → is_ascii_hexdigit d ≡ true
digit-hex d lt = grind (arith, nat_tests)

digits-len : (ds rest : List ℕ) → AllDigits 16 ds → hex_len (ds ++ close_brace ∷ rest) ≡ length ds
digits-len [] rest all = refl
digits-len (d ∷ ds) rest all = rw (digit-hex d all.0) (let e = digits-len ds rest all.1 in omega arith)

at-seam : (ds rest : List ℕ) (b : ℕ) → get_or (ds ++ b ∷ rest) (length ds) 0 ≡ b
at-seam [] rest b = refl
at-seam (d ∷ ds) rest b = at-seam ds rest b

past-seam : (ds rest : List ℕ) (b : ℕ) → drop (suc (length ds)) (ds ++ b ∷ rest) ≡ rest
past-seam [] rest b = refl
past-seam (d ∷ ds) rest b = past-seam ds rest b

module _ (c place : ℕ) (ds rest : List ℕ) (top : c ≤ greatest_character) (are : AreDigitsOf ds c) where
  escape-front : front_of place backslash (letter_u ∷ open_brace ∷ (ds ++ close_brace ∷ rest)) ≡ Ok (c, length ds + 4)
  escape-front =
      let some = braced-some (ds ++ close_brace ∷ rest) (length ds) c (sym (digits-len ds rest are.hex)) are.some are.few (at-seam ds rest close_brace)
      (are.value ∙ ap (digits_value 16) (sym (take-append_seam ds (close_brace ∷ rest)))) top in
      ap (λ o. Ok (unwrap_or o (backslash, 1))) (sym some)

  lit-escape : lit_from place 0 (backslash ∷ letter_u ∷ open_brace ∷ (ds ++ close_brace ∷ rest)) ≡ prepended c (lit_from ((place + 1) + (length ds + 4 - 1)) 0 rest)
  lit-escape =
      let more = letter_u ∷ open_brace ∷ (ds ++ close_brace ∷ rest) in
      let n : length ds + 4 - 1 ≡ suc (suc (suc (length ds))) = omega arith in
      let dropped : drop (length ds + 4 - 1) more ≡ rest = ap (λ m. drop m more) n ∙ past-seam ds rest close_brace in
      let within : length ds + 4 - 1 ≤ length more = omega (arith, length-append ds (close_brace ∷ rest)) in
      ap (λ r. followed_by r (λ skip. lit_from (place + 1) skip more)) escape-front
      ∙ ap (prepended c) (lit-skip (place + 1) (length ds + 4 - 1) more within ∙ ap (lit_from ((place + 1) + (length ds + 4 - 1)) 0) dropped)

plain-front : (place c : ℕ) (rest : List ℕ) → (c == quote) ≡ false → (c == backslash) ≡ false → nat_lt c 0x80 ≡ true → front_of place c rest ≡ Ok (c, 1)
plain-front place c rest e f g = rw (e, f, g) refl

lit-shown : (c place : ℕ) (rest w : List ℕ) → c ≤ greatest_character → ((p : ℕ) → lit_from p 0 rest ≡ Ok w) → lit_from place 0 (shown c ++ rest) ≡ Ok (c ∷ w)
lit-shown c place rest w top h = by (c == quote) (is_within 0x20 0x7E c && not (c == backslash)) refl refl
  where
    same : (c : ℕ) → (c == quote) ≡ true → quote ≡ c
    same c e = grind (arith, nat_tests)

    no_backslash : (c : ℕ) → (is_within 0x20 0x7E c && not (c == backslash)) ≡ true → (c == backslash) ≡ false
    no_backslash c e = grind (arith, nat_tests)

    ascii : (c : ℕ) → (is_within 0x20 0x7E c && not (c == backslash)) ≡ true → nat_lt c 0x80 ≡ true
    ascii c e = grind (arith, nat_tests)

    by : (t u : Bool) → (c == quote) ≡ t → (is_within 0x20 0x7E c && not (c == backslash)) ≡ u
        → lit_from place 0 (cond t (quote ∷ quote ∷ []) (cond u (c ∷ []) (backslash ∷ letter_u ∷ open_brace ∷ (digits 16 false c ++ close_brace ∷ []))) ++ rest) ≡ Ok (c ∷ w)
    by true u e f = ap (prepended quote) (h ((place + 1) + 1)) ∙ ap (λ x. Ok (x ∷ w)) (same c e)
    by false true e f =
        ap (λ r. followed_by r (λ skip. lit_from (place + 1) skip rest)) (plain-front place c rest e (no_backslash c f) (ascii c f)) ∙ ap (prepended c) (h (place + 1))
    by false false e f =
        ap (λ l. lit_from place 0 (backslash ∷ letter_u ∷ open_brace ∷ l)) (append_assoc (digits 16 false c) (close_brace ∷ []) rest)
        ∙ lit-escape c place (digits 16 false c) rest top (character-digits c top)
        ∙ ap (prepended c) (h ((place + 1) + (length (digits 16 false c) + 4 - 1)))

lit-spelled : (w : List ℕ) (place : ℕ) → IsWord w → lit_from place 0 (spelled w) ≡ Ok w
lit-spelled [] place h = refl
lit-spelled (c ∷ w) place h = lit-shown c place (spelled w) w h.0 (λ p. lit-spelled w p h.1)

pub read_back : (w : List ℕ) → IsWord w → lit (spelled w) ≡ Ok w
read_back w h = lit-spelled w 0 h
