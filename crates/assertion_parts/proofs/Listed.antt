-- Places in lists.
use Rattle.std.proofs.Common.{◌≡◌, ℕ, zero, suc, ◌<◌, ◌+◌, List, [], ◌∷◌, ◌++◌, length, take, get_or, ap, ◌∙◌, arith}

-- the first places, and one more
pub take-more : {X : Type 0} (xs : List X) (i : ℕ) (x d : X) → i < length xs → get_or xs i d ≡ x → take (i + 1) xs ≡ take i xs ++ x ∷ []
take-more [] i x d lt e = absurd (omega arith)
take-more (y ∷ ys) zero x d lt e = ap (λ z. z ∷ []) e
take-more (y ∷ ys) (suc i) x d lt e = let n : suc i + 1 ≡ suc (i + 1) = omega arith in ap (λ k. take k (y ∷ ys)) n ∙ ap (λ l. y ∷ l) (take-more ys i x d (omega arith) e)
