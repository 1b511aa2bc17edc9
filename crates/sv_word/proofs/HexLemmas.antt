-- Hexadecimal digits at the front of bytes, and the numbers that they write.
use Rattle.std.proofs.Common.{◌≡◌, ℕ, zero, suc, ◌+◌, ◌^◌, ◌<◌, ◌≤◌, Bool, true, false, nat_le, cond, List, [], ◌∷◌, length, take, get_or, ◌⊎◌, inl, inr, refl, ap, sym, ◌∙◌, subst, arith}
use Rattle.std.proofs.Math.Nat.{pow-le-pow_right}
use Rattle.std.proofs.Math.ListN.{get_or-eq_default}
use Rattle.std.proofs.lemmas.Bool.{cases_lt}
use Rattle.std.proofs.lemmas.Bool.Decides.{nat_tests}
use Rattle.std.proofs.lemmas.Int.Digits.{digits_value-lt}
use Rattle.std.specs.Char.{digit_value, is_ascii_hexdigit}
use Rattle.std.specs.Str.Parse.{digits_value, AllDigits}
use Rattle.std.specs.Prelude.{Some, None, ◌==◌, ◌&&◌}
use Rattle.sv_word.specs.Literals.{hex_len, braced_digits, close_brace}
use Rattle.sv_word.specs.Utf8.{is_within}
use Rattle.sv_word.specs.Words.{greatest_character}

pub digit-at : (ds : List ℕ) → AllDigits 16 ds → (i d : ℕ) → i < length ds → digit_value (get_or ds i d) < 16
digit-at [] all i d lt = absurd (omega arith)
digit-at (b ∷ ds) all zero d lt = all.0
digit-at (b ∷ ds) all (suc i) d lt = digit-at ds all.1 i d (omega arith)

pub digits-take : (n : ℕ) (ds : List ℕ) → AllDigits 16 ds → AllDigits 16 (take n ds)
digits-take zero ds all = tt
digits-take (suc n) [] all = tt
digits-take (suc n) (b ∷ ds) all = (all.0, digits-take n ds all.1)

hex-digit : (b : ℕ) → is_ascii_hexdigit b ≡ true → digit_value b < 16
hex-digit b h = grind (arith, nat_tests)

-- the digits counted at the front are digits
pub hex-digits : (n : ℕ) (bs : List ℕ) → n ≤ hex_len bs → AllDigits 16 (take n bs)
hex-digits zero bs le = tt
hex-digits (suc n) [] le = tt
hex-digits (suc n) (b ∷ bs) le = by (is_ascii_hexdigit b) refl le (hex-digits n bs)
  where
    by : (t : Bool) → is_ascii_hexdigit b ≡ t → suc n ≤ cond t (1 + hex_len bs) 0 → (n ≤ hex_len bs → AllDigits 16 (take n bs)) → AllDigits 16 (take (suc n) (b ∷ bs))
    by true e le' rest = (hex-digit b e, rest (omega arith))
    by false e le' rest = absurd (omega arith)

-- four digits write a number of 16 bits
pub value-below : (ds : List ℕ) → AllDigits 16 ds → length ds ≤ 4 → digits_value 16 ds < 0x10000
value-below ds all le =
    let lt = digits_value-lt 16 ds all in
    let up : 16 ^ length ds ≤ 16 ^ 4 = pow-le-pow_right (omega arith) le in
    omega arith

-- what the test of `braced_digits` tells
closed-true : (n b v : ℕ) → 1 ≤ n → n ≤ 5 → b ≡ close_brace → v ≤ greatest_character → (is_within 1 5 n && (b == close_brace && nat_le v greatest_character)) ≡ true
closed-true n b v low high close top = grind (arith, nat_tests)

closed-false : (n b v : ℕ) → (b ≡ close_brace → ⊥) → (is_within 1 5 n && (b == close_brace && nat_le v greatest_character)) ≡ false
closed-false n b v open' = grind (arith, nat_tests)

pub braced-some : (bs : List ℕ) (n v : ℕ) → n ≡ hex_len bs → 1 ≤ n → n ≤ 5 → get_or bs n 0 ≡ close_brace → v ≡ digits_value 16 (take n bs) → v ≤ greatest_character → Some (v, n + 4) ≡ braced_digits bs
braced-some bs n v is low high close e top =
    let P : ℕ → Type 0 = λ m. get_or bs m 0 ≡ close_brace in
    let close' : get_or bs (hex_len bs) 0 ≡ close_brace = subst P is close in
    let e' : v ≡ digits_value 16 (take (hex_len bs) bs) = e ∙ ap (λ m. digits_value 16 (take m bs)) is in
    let t = closed-true (hex_len bs) (get_or bs (hex_len bs) 0) (digits_value 16 (take (hex_len bs) bs)) (omega arith) (omega arith) close' (omega arith) in
    rw (e', is) (sym (ap (λ t. cond t (Some (digits_value 16 (take (hex_len bs) bs), hex_len bs + 4)) None) t))

pub braced-none : (bs : List ℕ) (n : ℕ) → n ≡ hex_len bs → (get_or bs n 0 ≡ close_brace → ⊥) → None ≡ braced_digits bs
braced-none bs n is open' =
    let t = closed-false (hex_len bs) (get_or bs (hex_len bs) 0) (digits_value 16 (take (hex_len bs) bs)) (λ e. open' (ap (λ m. get_or bs m 0) is ∙ e)) in
    sym (ap (λ t. cond t (Some (digits_value 16 (take (hex_len bs) bs), hex_len bs + 4)) None) t)

long-false : (n : ℕ) (b : Bool) → (n < 1) ⊎ (5 < n) → (is_within 1 5 n && b) ≡ false
long-false n b (inl h) = grind (arith, nat_tests)
long-false n b (inr h) = grind (arith, nat_tests)

pub braced-long : (bs : List ℕ) (n : ℕ) → n ≡ hex_len bs → (n < 1) ⊎ (5 < n) → None ≡ braced_digits bs
braced-long bs n is h =
    let P : ℕ → Type 0 = λ m. (m < 1) ⊎ (5 < m) in
    let t = long-false (hex_len bs) (get_or bs (hex_len bs) 0 == close_brace && nat_le (digits_value 16 (take (hex_len bs) bs)) greatest_character) (subst P is h) in
    sym (ap (λ t. cond t (Some (digits_value 16 (take (hex_len bs) bs), hex_len bs + 4)) None) t)

-- a byte that isn't 0 stands within the bytes
pub within-bytes : (bs : List ℕ) (i : ℕ) → get_or bs i 0 ≡ close_brace → i < length bs
within-bytes bs i e = elim (cases_lt i (length bs)) [ inl lt ↦ lt | inr le ↦ absurd (let none = get_or-eq_default bs 0 le in omega arith) ]
