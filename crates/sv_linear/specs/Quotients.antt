-- Quotients of whole numbers by numbers that divide them.
use Rattle.std.specs.Prelude.{ℕ, suc, ◌/◌, ℤ, pos, negsuc, neg_ℤ}

-- the quotient, rounded toward zero
abbrev pub quotient : ℤ → ℕ → ℤ
quotient (pos n) d = pos (n / d)
quotient (negsuc n) d = neg_ℤ (pos (suc n / d))

abbrev pub divided_term : ℕ → ℕ × ℤ → ℕ × ℤ
divided_term d t = (t.0, quotient t.1 d)
