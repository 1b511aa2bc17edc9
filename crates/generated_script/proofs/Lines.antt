-- Lines put behind a text piece by piece.
use Rattle.std.proofs.Common.{◌≡◌, ℕ, List, [], ◌∷◌, ◌++◌, ap, ◌∙◌, append_assoc}
use Rattle.std.specs.Fmt.{decimal}
use Rattle.generated_script.specs.Blocks.{line, numbered}

-- a piece more behind what was put behind a text
pub more-behind : (a b c x s : List ℕ) → b ≡ a ++ x → c ≡ b ++ s → c ≡ a ++ (x ++ s)
more-behind a b c x s e f = f ∙ ap (λ (l : List ℕ). l ++ s) e ∙ append_assoc a x s

pub line-behind : (a b c s : List ℕ) → b ≡ a ++ s → c ≡ b ++ 10 ∷ [] → c ≡ a ++ line s
unfolding line
line-behind a b c s e f = more-behind a b c s (10 ∷ []) e f

pub numbered-behind : (a b c d f s t : List ℕ) (n : ℕ) → b ≡ a ++ s → c ≡ b ++ decimal n → d ≡ c ++ t → f ≡ d ++ 10 ∷ [] → f ≡ a ++ numbered s n t
numbered-behind a b c d f s t n e g h = line-behind a d f (s ++ decimal n ++ t) (more-behind a c d (s ++ decimal n) t (more-behind a b c s (decimal n) e g) h)
