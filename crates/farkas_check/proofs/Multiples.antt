-- A remainder of 0 tells a multiple.
use Rattle.std.proofs.Common.{◌≡◌, ◌*◌, ◌<◌, ℤ, pos, neg_ℤ, ◌+ℤ◌, ◌*ℤ◌, ◌≤ℤ◌, ◌↔◌, IsTrue, nat_eq, eq-eqb, unsigned_abs, int_div, int_rem, FitsSigned, ap, ◌∙◌, subst, ⊎_elim, arith}
use Rattle.std.specs.Int.{w128, cast_unsigned}
use mir.Val.{SFits}
use Rattle.std.proofs.lemmas.Int.{ints, quot-rem, rem_below, unsigned_abs-mul}
use Rattle.std.proofs.lemmas.Bool.{cases_lt}
use Rattle.std.proofs.lemmas.Bool.Decides.{nat_tests}
use Rattle.std.proofs.Math.Nat.{mul-le-mul_left}
use Rattle.sv_linear.specs.Integers.{mul-add, mul-neg, mul_comm}
use Rattle.sv_linear.specs.Divisors.{Divides}

small_multiple : (d z : ℤ) → unsigned_abs (d *ℤ z) < unsigned_abs d → z ≡ pos 0
small_multiple d z h =
    let m : unsigned_abs (d *ℤ z) ≡ unsigned_abs d * unsigned_abs z = unsigned_abs-mul d z in
    let n : unsigned_abs z ≡ 0 = ⊎_elim (λ l. omega arith) (λ l. absurd (omega (arith, mul-le-mul_left (unsigned_abs d) l))) (cases_lt (unsigned_abs z) 1) in
    omega (arith, ints)

none_left : (a d : ℤ) → pos 1 ≤ℤ d → Divides d a → int_rem a d ≡ pos 0
none_left a d p h =
    let q = int_div a d in
    let rest : int_rem a d ≡ d *ℤ (h.0 +ℤ neg_ℤ q) = omega (arith, ints, quot-rem a d, h.1, mul-add d h.0 (neg_ℤ q), mul-neg d q, mul_comm q d) in
    let small : unsigned_abs (d *ℤ (h.0 +ℤ neg_ℤ q)) < unsigned_abs d = subst (λ z. unsigned_abs z < unsigned_abs d) rest (rem_below a d (omega (arith, ints))) in
    rest ∙ ap (λ z. d *ℤ z) (small_multiple d (h.0 +ℤ neg_ℤ q) small) ∙ omega (arith, ints)

pub remainder_tells : (a d : ℤ) → FitsSigned w128 a → FitsSigned w128 d → pos 1 ≤ℤ d → IsTrue (nat_eq (cast_unsigned w128 (int_rem a d)) 0) ↔ Divides d a
remainder_tells a d fa fd p =
    let fits : SFits w128 (int_rem a d) = omega (arith, ints, rem_below a d (omega (arith, ints)), fd) in (
      (λ t. let bits : cast_unsigned w128 (int_rem a d) ≡ 0 = grind (arith, nat_tests) in
          let none : int_rem a d ≡ pos 0 = omega (arith, ints) in
          (int_div a d, omega (arith, ints, quot-rem a d, mul_comm (int_div a d) d))),
      (λ h. eq-eqb _ 0 (ap (cast_unsigned w128) (none_left a d p h))),
    )

pub zero_tells : (a : ℤ) → FitsSigned w128 a → IsTrue (nat_eq (cast_unsigned w128 a) 0) ↔ Divides (pos 0) a
zero_tells a fa = (
  (λ t. let bits : cast_unsigned w128 a ≡ 0 = grind (arith, nat_tests) in
      let none : a ≡ pos 0 = omega (arith, ints) in
      (pos 0, omega (arith, ints))),
  (λ h. let none : a ≡ pos 0 = omega (arith, ints, h.1) in eq-eqb _ 0 (ap (cast_unsigned w128) none)),
)

pub zero_divides : (z : ℤ) → z ≡ pos 0 → Divides (pos 0) z
zero_divides z e = (pos 0, omega (arith, ints))

pub none_of_zero : (z : ℤ) → Divides (pos 0) z → z ≡ pos 0
none_of_zero z h = omega (arith, ints, h.1)

pub divides_zero : (d z : ℤ) → z ≡ pos 0 → Divides d z
divides_zero d z e = (pos 0, omega (arith, ints))
