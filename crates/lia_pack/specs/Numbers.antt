-- Numbers written as bytes.
use Rattle.std.specs.Prelude.{◌≡◌, ℕ, ℤ, pos, negsuc, ◌+◌, ◌-◌, ◌*◌, ◌<◌, ◌^◌, List, [], ◌∷◌, ◌++◌, nat_lt, if◌then◌else◌}
use Rattle.std.specs.List.{AllByRecursion}

-- the numbers that the bytes say, where `high` was read of the first: seven bits a byte, the highest first, and each byte of
-- a number but its last has 128 more
abbrev pub numbers_from : ℕ → List ℕ → List ℕ
numbers_from high [] = []
numbers_from high (b ∷ bs) = if nat_lt b 128 then (high * 128 + b) ∷ numbers_from 0 bs else numbers_from (high * 128 + (b - 128)) bs

-- a number with its sign
abbrev pub folded : ℤ → ℕ
folded (pos n) = 2 * n
folded (negsuc n) = 2 * n + 1

abbrev pub AreSmall : List ℕ → Type 0
AreSmall numbers = AllByRecursion (λ n. n < 2 ^ 128) numbers

-- the bytes say these numbers, each of 128 bits
pub record Say (bytes numbers : List ℕ) : Type 0 where
  pub same : numbers_from 0 bytes ≡ numbers
  pub small : AreSmall numbers

-- bytes were added that say these numbers, whatever comes behind
pub record AreWritten (before after numbers : List ℕ) : Type 0 where
  pub bytes : List ℕ
  pub added : after ≡ before ++ bytes
  pub said : (rest : List ℕ) → numbers_from 0 (bytes ++ rest) ≡ numbers ++ numbers_from 0 rest
  pub small : AreSmall numbers

-- bytes were added that begin a number with what `high` has of it
pub record IsBegun (before after : List ℕ) (high : ℕ) : Type 0 where
  pub bytes : List ℕ
  pub added : after ≡ before ++ bytes
  pub said : (rest : List ℕ) → numbers_from 0 (bytes ++ rest) ≡ numbers_from high rest
