-- Quotients by a number above 0, rounded down.
use Rattle.std.proofs.Common.{◌≡◌, true, suc, ◌*◌, ◌<◌, ◌≤◌, ℤ, pos, negsuc, ◌*ℤ◌, ◌≤ℤ◌, arith}
use Rattle.std.specs.Prelude.{int_lt}
use Rattle.std.specs.Int.{int_div_euclid}
use Rattle.std.proofs.lemmas.Int.{ints}
use Rattle.std.proofs.lemmas.Bool.{ltb-true}
use Rattle.std.proofs.lemmas.Nat.{le-div}
use Rattle.std.proofs.Math.Nat.{div-lt_iff_lt-mul}

-- the quotient is the greatest of the numbers that come to at most m, taken d times
pub quotient-greatest : (m d x : ℤ) → int_lt (pos 0) d ≡ true → (d *ℤ x) ≤ℤ m → x ≤ℤ int_div_euclid m d
quotient-greatest (pos c) (pos b) (pos n) p h =
    let above = ltb-true 0 b p in
    let k : n * b ≤ c = omega (arith, ints) in
    let l = le-div n c b above k in
    omega (arith, ints)
quotient-greatest (pos c) (pos b) (negsuc n) p h = omega (arith, ints)
quotient-greatest (negsuc c) (pos b) (pos n) p h = absurd (omega (arith, ints))
quotient-greatest (negsuc c) (pos b) (negsuc n) p h =
    let above = ltb-true 0 b p in
    let k : c < suc n * b = omega (arith, ints) in
    let l = (div-lt_iff_lt-mul {k = b} {x = c} {y = suc n} above).1 k in
    omega (arith, ints)
quotient-greatest (pos c) (negsuc b) x p h = absurd (cc)
quotient-greatest (negsuc c) (negsuc b) x p h = absurd (cc)
