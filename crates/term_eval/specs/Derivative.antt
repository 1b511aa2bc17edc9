-- Derivatives of regular expressions (Brzozowski, Derivatives of regular expressions, 1964).
use Rattle.std.specs.Prelude.{ℕ, ◌∷◌}
use Rattle.sv_terms.specs.declared.regex.Regex.{Regex}
use Rattle.sv_terms.specs.Language.{Word, In}

-- the same words are in both
pub record SameWords (a b : Regex) : Type 0 where
  pub only : (w : Word) → In a w → In b w
  pub all : (w : Word) → In b w → In a w

-- d has the words that follow c in the words of r
pub record IsDerivative (r : Regex) (c : ℕ) (d : Regex) : Type 0 where
  pub only : (w : Word) → In d w → In r (c ∷ w)
  pub all : (w : Word) → In r (c ∷ w) → In d w
