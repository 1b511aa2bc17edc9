-- Values of forms over a denominator.
use Rattle.std.proofs.Common.{◌≡◌, ℤ, pos, ◌+ℤ◌, ◌*ℤ◌, ap, ◌∙◌, sym, arith}
use Rattle.std.proofs.lemmas.Int.{ints}
use Rattle.sv_linear.specs.Integers.{mul-add, add-mul, mul_assoc}

pub hom_combined : (t a b k m n p q d : ℤ) → t ≡ p *ℤ a +ℤ q *ℤ b → k ≡ p *ℤ m +ℤ q *ℤ n → t +ℤ k *ℤ d ≡ p *ℤ (a +ℤ m *ℤ d) +ℤ q *ℤ (b +ℤ n *ℤ d)
hom_combined t a b k m n p q d e f =
    let g = ap (λ w. w *ℤ d) f ∙ add-mul (p *ℤ m) (q *ℤ n) d in
    omega (arith, ints, e, g, mul_assoc p m d, mul_assoc q n d, mul-add p a (m *ℤ d), mul-add q b (n *ℤ d))

pub hom_divided : (t a k m by d : ℤ) → by *ℤ t ≡ a → by *ℤ k ≡ m → a +ℤ m *ℤ d ≡ by *ℤ (t +ℤ k *ℤ d)
hom_divided t a k m by d e f =
    let g = ap (λ w. w *ℤ d) (sym f) ∙ mul_assoc by k d in
    omega (arith, ints, g, e, mul-add by t (k *ℤ d))

pub one_times : (z : ℤ) → pos 1 *ℤ z ≡ z
one_times z = omega (arith, ints)

pub plus_none : (p z w : ℤ) → p *ℤ z +ℤ pos 0 *ℤ w ≡ p *ℤ z
plus_none p z w = omega (arith, ints)

-- one more sum of a merge
pub merge_value : (p q out fl fr lb rb x sum : ℤ) → sum ≡ p *ℤ fl +ℤ q *ℤ fr →
    (out +ℤ sum *ℤ x) +ℤ (p *ℤ lb +ℤ q *ℤ rb) ≡ out +ℤ (p *ℤ (fl *ℤ x +ℤ lb) +ℤ q *ℤ (fr *ℤ x +ℤ rb))
merge_value p q out fl fr lb rb x sum is =
    let g = ap (λ w. w *ℤ x) is ∙ add-mul (p *ℤ fl) (q *ℤ fr) x in
    omega (arith, ints, g, mul_assoc p fl x, mul_assoc q fr x, mul-add p (fl *ℤ x) lb, mul-add q (fr *ℤ x) rb)
