-- The value of terms is told by their coefficients alone.
use Rattle.std.proofs.Common.{◌≡◌, ℕ, ℤ, pos, negsuc, ◌+ℤ◌, ◌*ℤ◌, List, [], ◌∷◌, ◌++◌, length, ◌∙◌, arith}
use Rattle.std.proofs.lemmas.Int.{ints}
use Rattle.farkas_check.proofs.Combining.{value_in_ideal, coefficient-scaled, value-scaled}
use Rattle.farkas_check.proofs.Soundness.{zero_ideal}
use Rattle.sv_linear.specs.Terms.{terms_value, coefficient}
use Rattle.sv_linear.proofs.Ascending.{terms_value-append}
use Rattle.sv_linear.specs.TermLaws.{coefficient-append}

-- sets of numbers that are kept by sums and multiples
pub record IsIdeal (P : ℤ → Type 0) : Type 0 where
  pub at_zero : P (pos 0)
  pub at_sum : (a b : ℤ) → P a → P b → P (a +ℤ b)
  pub at_product : (a b : ℤ) → P a → P (a *ℤ b)

-- each coefficient times a number
abbrev pub scaled : ℤ → List (ℕ × ℤ) → List (ℕ × ℤ)
scaled a [] = []
scaled a (t ∷ ts) = (t.0, a *ℤ t.1) ∷ scaled a ts

-- terms with the same coefficient at each unknown have the same value
pub same-value : (x : ℕ → ℤ) (ts us : List (ℕ × ℤ)) → ((u : ℕ) → coefficient u ts ≡ coefficient u us) → terms_value x ts ≡ terms_value x us
same-value x ts us h =
    let both = ts ++ scaled (negsuc 0) us in
    let none : terms_value x (ts ++ scaled (negsuc 0) us) ≡ pos 0 =
    value_in_ideal (λ z. z ≡ pos 0) zero_ideal x (length (ts ++ scaled (negsuc 0) us)) (ts ++ scaled (negsuc 0) us) (omega arith)
    (λ u. coefficient-append u ts (scaled (negsuc 0) us) ∙ omega (arith, ints, coefficient-scaled u (negsuc 0) us, h u)) in
    omega (arith, ints, terms_value-append x ts (scaled (negsuc 0) us), value-scaled x (negsuc 0) us)
