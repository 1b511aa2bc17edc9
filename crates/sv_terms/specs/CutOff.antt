-- Numbers cut off at a greatest one: it doesn't matter whether that is done at each step.
use Rattle.std.proofs.Common.{◌≡◌, ℕ, zero, suc, ◌+◌, ◌*◌, ◌^◌, ◌<◌, ◌≤◌, ◌⊎◌, min, inl, inr, refl, ap, sym, ◌∙◌, arith}
use Rattle.std.proofs.Math.Nat.{mul-le-mul_right, mul-le-mul_left, pow-le-pow_right, pow-suc}

-- cut off at the greatest number of 64 bits
abbrev pub cut_off : ℕ → ℕ
cut_off n = min n 18446744073709551615

pub split-at : (m n : ℕ) → (n ≤ m) ⊎ (m < n)
split-at m zero = inl (omega arith)
split-at zero (suc n) = inr (omega arith)
split-at (suc m) (suc n) = elim (split-at m n) [ inl h ↦ inl (omega arith) | inr h ↦ inr (omega arith) ]

pub cut-below : (m n : ℕ) → n ≤ m → min n m ≡ n
cut-below m n h = omega arith

pub cut-above : (m n : ℕ) → m ≤ n → min n m ≡ m
cut-above m n h = omega arith

pub cut-add : (m a b : ℕ) → min (min a m + min b m) m ≡ min (a + b) m
cut-add m a b = omega arith

pub cut-suc : (m a b : ℕ) → min (min a m + b) m ≡ min (a + b) m
cut-suc m a b = omega arith

-- a product with a large side is large, but for 0
large-left : (m a b : ℕ) → m ≤ a → 0 < b → m ≤ a * b
large-left m a b h pos =
    let p : a * 1 ≤ a * b = mul-le-mul_left a pos in
    omega arith

large-right : (m a b : ℕ) → m ≤ b → 0 < a → m ≤ a * b
large-right m a b h pos =
    let p : 1 * b ≤ a * b = mul-le-mul_right b pos in
    omega arith

zero-right : (m a b : ℕ) → b ≡ 0 → min (min a m * min b m) m ≡ min (a * b) m
zero-right m a b z =
    let e : min b m ≡ 0 = omega arith in
    rw (e, z) (omega arith)

zero-left : (m a b : ℕ) → a ≡ 0 → min (min a m * min b m) m ≡ min (a * b) m
zero-left m a b z =
    let e : min a m ≡ 0 = omega arith in
    rw (e, z) (omega arith)

cut-large : (m a b c d : ℕ) → m ≤ a * b → m ≤ c * d → min (a * b) m ≡ min (c * d) m
cut-large m a b c d h k = cut-above m (a * b) h ∙ sym (cut-above m (c * d) k)

pub cut-mul : (m a b : ℕ) → 0 < m → min (min a m * min b m) m ≡ min (a * b) m
cut-mul m a b pos = elim (split-at 0 a) [
  | inl z ↦ zero-left m a b (omega arith)
  | inr pa ↦ elim (split-at 0 b) [
    | inl z ↦ zero-right m a b (omega arith)
    | inr pb ↦ elim (split-at m a) [
      | inl ha ↦ elim (split-at m b) [
        | inl hb ↦ rw (cut-below m a ha, cut-below m b hb) refl
        | inr hb ↦ cut-large m (min a m) (min b m) a b (large-right m (min a m) (min b m) (omega arith) (omega arith)) (large-right m a b (omega arith) (omega arith))
      ]
      | inr ha ↦ cut-large m (min a m) (min b m) a b (large-left m (min a m) (min b m) (omega arith) (omega arith)) (large-left m a b (omega arith) (omega arith))
    ]
  ]
]

pub below-power : (n : ℕ) → n < 2 ^ n
below-power zero = omega arith
below-power (suc n) =
    let h = below-power n in
    let e : 2 ^ suc n ≡ 2 ^ n * 2 = pow-suc 2 n in
    omega arith

pub power-more : (m n : ℕ) → m ≤ n → 2 ^ m ≤ 2 ^ n
power-more m n h = pow-le-pow_right {n = 2} (omega arith) h

pub cut-power : (m n : ℕ) → min (2 ^ min n m) m ≡ min (2 ^ n) m
cut-power m n = elim (split-at m n) [
  | inl h ↦ ap (λ k. min (2 ^ k) m) (cut-below m n h)
  | inr h ↦
      let same : min n m ≡ m = omega arith in
      let a = below-power m in
      let b = power-more m n (omega arith) in
      ap (λ k. min (2 ^ k) m) same ∙ cut-above m (2 ^ m) (omega arith) ∙ sym (cut-above m (2 ^ n) (omega arith))
]

pub cut-sum : (a b : ℕ) → cut_off (cut_off a + cut_off b) ≡ cut_off (a + b)
cut-sum a b = cut-add 18446744073709551615 a b

pub cut-product : (a b : ℕ) → cut_off (cut_off a * cut_off b) ≡ cut_off (a * b)
cut-product a b = cut-mul 18446744073709551615 a b (omega arith)
