-- The numbers that digits write.
use Rattle.std.proofs.Common.{◌≡◌, refl, ℕ, zero, suc, ◌+◌, ◌*◌, ◌-◌, ◌^◌, ◌<◌, ◌≤◌, List, [], ◌∷◌, length, get_or, drop, take, arith, add-one, le_trans}
use Rattle.std.proofs.lemmas.Int.Digits.{digits_value_more}
use Rattle.std.proofs.lemmas.List.{take_all, drop_all}
use Rattle.std.proofs.lemmas.List.Folds.{list_all_more, list_all_at}
use Rattle.std.specs.Char.{digit_value}
use Rattle.std.specs.Str.Parse.{digits_value}
use Rattle.smt_names.specs.Tokens.{value_from}

value_above : (n : ℕ) (ds : List ℕ) → n ≤ value_from n ds
value_above n [] = omega arith
value_above n (d ∷ ds) = le_trans (omega arith) (value_above (10 * n + (d - 48)) ds)

value_next : (n : ℕ) (ds : List ℕ) (i : ℕ) (e : ℕ) → i < length ds → value_from n (drop i ds) ≡ value_from (10 * n + (get_or ds i e - 48)) (drop (suc i) ds)
value_next n [] i e h = absurd (omega arith)
value_next n (d ∷ ds) zero e h = refl
value_next n (d ∷ ds) (suc i) e h = value_next n ds i e (omega arith)

pub value-more : (n : ℕ) (ds : List ℕ) (i : ℕ) (e : ℕ) → i < length ds → value_from n (drop i ds) ≡ value_from (10 * n + (get_or ds i e - 48)) (drop (i + 1) ds)
value-more n ds i e h = rw add-one (value_next n ds i e h)

pub value-over : (n : ℕ) (ds : List ℕ) (i e v limit : ℕ) → i < length ds → limit ≤ 10 * n + (get_or ds i e - 48) → value_from n (drop i ds) ≡ v → limit ≤ v
value-over n ds i e v limit h g f = let k = value_above (10 * n + (get_or ds i e - 48)) (drop (suc i) ds) in rw (← f, value_next n ds i e h) (le_trans g k)

pub ruleset values = (value-more, value-over, drop_all)

-- five hexadecimal digits write less than 2^20
pub hex-next : (n d i : ℕ) → n < 16 ^ i → d < 16 → 16 * n + d < 16 ^ (i + 1)
hex-next n d i h g = rw add-one (omega arith)

pub hex-fits : (n i k : ℕ) → n < 16 ^ i → i < k → k ≤ 5 → n < 65536
hex-fits n zero k h g f = omega arith
hex-fits n (suc zero) k h g f = omega arith
hex-fits n (suc (suc zero)) k h g f = omega arith
hex-fits n (suc (suc (suc zero))) k h g f = omega arith
hex-fits n (suc (suc (suc (suc zero)))) k h g f = omega arith
hex-fits n (suc (suc (suc (suc (suc i))))) k h g f = absurd (omega arith)

pub hex-more : (ds : List ℕ) (n d i : ℕ) → i < length ds → n ≡ digits_value 16 (take i ds) → d ≡ digit_value (get_or ds i 0) → 16 * n + d ≡ digits_value 16 (take (i + 1) ds)
hex-more ds n d i h e f = rw (e, f, digits_value_more 16 ds i h) (omega arith)

pub ruleset hexadecimal = (hex-next, hex-fits, hex-more, list_all_more, list_all_at, take_all)
