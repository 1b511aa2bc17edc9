-- Which sums and products are numbers of 128 bits.
use Rattle.std.proofs.Common.{◌≡◌, ◌-◌, ◌^◌, ◌<◌, ℤ, pos, negsuc, ◌*ℤ◌, ◌≤ℤ◌, FitsSigned, unsigned_abs, ap, ◌∙◌, arith}
use Rattle.std.specs.Int.{w128}
use Rattle.std.proofs.lemmas.Int.{ints, fits_signed_from_abs}
use Rattle.sv_linear.specs.Combining.{IsSymmetric, FitsSymmetric, IsFrom, FitsFrom}

pub zero_from : (least p z : ℤ) → least ≤ℤ pos 0 → z ≡ pos 0 → IsFrom least (p *ℤ z)
zero_from least p z h e =
    let m : p *ℤ z ≡ pos 0 = ap (λ w. p *ℤ w) e ∙ omega (arith, ints) in
    (omega (arith, ints), omega (arith, ints))

-- where neither list has the unknown
pub zeros_fit : (least p a q b : ℤ) → least ≤ℤ pos 0 → a ≡ pos 0 → b ≡ pos 0 → FitsFrom least p a q b
zeros_fit least p a q b h ea eb =
    let m : p *ℤ a ≡ pos 0 = ap (λ w. p *ℤ w) ea ∙ omega (arith, ints) in
    let n : q *ℤ b ≡ pos 0 = ap (λ w. q *ℤ w) eb ∙ omega (arith, ints) in
    (zero_from least p a h ea, (zero_from least q b h eb, (omega (arith, ints), omega (arith, ints))))

symmetric_of : (least z : ℤ) → least ≡ negsuc (2 ^ 127 - 2) → IsFrom least z → IsSymmetric z
symmetric_of least z e f = let g = f.0 in let h = f.1 in omega (arith, ints)

of_symmetric : (least z : ℤ) → least ≡ negsuc (2 ^ 127 - 2) → IsSymmetric z → IsFrom least z
of_symmetric least z e f = (omega (arith, ints), fits_signed_from_abs w128 z f)

pub symmetric_from : (least p a q b : ℤ) → least ≡ negsuc (2 ^ 127 - 2) → FitsFrom least p a q b → FitsSymmetric p a q b
symmetric_from least p a q b e f = (symmetric_of least _ e f.0, (symmetric_of least _ e f.1.0, symmetric_of least _ e f.1.1))

pub from_symmetric : (least p a q b : ℤ) → least ≡ negsuc (2 ^ 127 - 2) → FitsSymmetric p a q b → FitsFrom least p a q b
from_symmetric least p a q b e f = (of_symmetric least _ e f.0, (of_symmetric least _ e f.1.0, of_symmetric least _ e f.1.1))

pub not_zero_read : (z : ℤ) → FitsSigned w128 z → (z ≡ pos 0 → ⊥) → 0 < unsigned_abs z
not_zero_read z f n = omega (arith, ints)
