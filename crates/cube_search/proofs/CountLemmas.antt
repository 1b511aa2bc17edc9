-- There are no more definitions in order than variables.
use Rattle.std.proofs.Common.{◌≡◌, ℕ, zero, suc, ◌<◌, ◌≤◌, ◌+◌, ◌||◌, Bool, true, false, List, [], ◌∷◌, length, refl, sym, ap, ◌∙◌, arith, inl, inr, eq-eqb, ne_eqb}
use Rattle.std.proofs.lemmas.Bool.Decides.{eqb_tells}
use Rattle.flat_cubes.specs.Using.{is_defined}
use Rattle.flat_cubes.specs.Straight.{InOrder}
use Rattle.flat_cubes.specs.declared.definition.Definition.{Definition}

abbrev counted : Bool → ℕ
counted true = 1
counted false = 0

-- how many numbers below n pass
abbrev passing : (ℕ → Bool) → ℕ → ℕ
passing p zero = 0
passing p (suc n) = counted (p n) + passing p n

one-most : (b : Bool) → counted b ≤ 1
one-most true = omega arith
one-most false = omega arith

passing-most : (p : ℕ → Bool) (n : ℕ) → passing p n ≤ n
passing-most p zero = omega arith
passing-most p (suc n) = omega (arith, one-most (p n), passing-most p n)

passing-same : (p q : ℕ → Bool) (n : ℕ) → ((v : ℕ) → v < n → q v ≡ p v) → passing q n ≡ passing p n
passing-same p q zero same = refl
passing-same p q (suc n) same =
    let here : counted (q n) ≡ counted (p n) = ap counted (same n (omega arith)) in
    let rest = passing-same p q n (λ v lt. same v (omega (arith, lt))) in
    omega (arith, here, rest)

-- one number more passes
passing-more : (p q : ℕ → Bool) (x n : ℕ) → x < n → p x ≡ false → q x ≡ true → ((v : ℕ) → (v ≡ x → ⊥) → q v ≡ p v) → passing q n ≡ suc (passing p n)
passing-more p q x zero lt none one same = absurd (omega (arith, lt))
passing-more p q x (suc n) lt none one same = elim (eqb_tells x n) [
  | inl is ↦
      let old : counted (p n) ≡ 0 = ap (λ v. counted (p v)) (sym is.1) ∙ ap counted none in
      let new : counted (q n) ≡ 1 = ap (λ v. counted (q v)) (sym is.1) ∙ ap counted one in
      let rest = passing-same p q n (λ v l. same v (λ e. omega (arith, e, l, is.1))) in
      omega (arith, old, new, rest)
  | inr other ↦
      let here : counted (q n) ≡ counted (p n) = ap counted (same n (λ e. other.1 (sym e))) in
      let rest = passing-more p q x n (let ne = other.1 in omega arith) none one same in
      omega (arith, here, rest)
]

order-passing : (n : ℕ) (ds : List Definition) → InOrder n ds → length ds ≡ passing (is_defined ds) n
order-passing n [] o = none n
  where
    none : (k : ℕ) → 0 ≡ passing (is_defined []) k
    none zero = refl
    none (suc k) = (let h = none k in omega arith)
order-passing n (d ∷ ds) o =
    let more = passing-more (is_defined ds) (is_defined (d ∷ ds)) d.variable n o.0.defined o.0.once
    (ap (λ b. b || is_defined ds d.variable) (eq-eqb d.variable d.variable refl)) (λ v ne. ap (λ b. b || is_defined ds v) (ne_eqb d.variable v (λ e. ne (sym e)))) in
    ap suc (order-passing n ds o.1) ∙ sym more

pub few-definitions : (n : ℕ) (ds : List Definition) → InOrder n ds → length ds ≤ n
few-definitions n ds o = omega (arith, order-passing n ds o, passing-most (is_defined ds) n)
