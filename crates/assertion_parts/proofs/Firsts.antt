-- The first of the elements that a test picks.
use Rattle.std.proofs.Common.{◌≡◌, ℕ, zero, suc, ◌<◌, Bool, true, false, cond, List, [], ◌∷◌, length, take, filter, Some, get_or, refl, sym, ap, ◌∙◌, arith}
use Rattle.assertion_parts.specs.Firsts.{first_of}

module _ {X : Type 0} (p : X → Bool) where
  skip : (x : X) (xs : List X) (b : Bool) → p x ≡ b → filter p (x ∷ xs) ≡ [] → (p x ≡ false) × (filter p xs ≡ [])
  skip x xs true h e = absurd (let e' : x ∷ filter p xs ≡ [] = sym (ap (λ b. cond b (x ∷ filter p xs) (filter p xs)) h) ∙ e in cc)
  skip x xs false h e = (h, sym (ap (λ b. cond b (x ∷ filter p xs) (filter p xs)) h) ∙ e)

  -- where nothing is picked of those before it
  pub first-picked : (xs : List X) (k : ℕ) (x d : X) → k < length xs → get_or xs k d ≡ x → p x ≡ true → filter p (take k xs) ≡ [] → first_of (filter p xs) ≡ Some x
  first-picked [] k x d lt e h none = absurd (omega arith)
  first-picked (y ∷ ys) zero x d lt e h none =
      let at : p y ≡ true = ap p e ∙ h in
      ap (λ b. first_of (cond b (y ∷ filter p ys) (filter p ys))) at ∙ ap Some e
  first-picked (y ∷ ys) (suc k) x d lt e h none =
      let s = skip y (take k ys) (p y) refl none in
      ap (λ b. first_of (cond b (y ∷ filter p ys) (filter p ys))) s.0 ∙ first-picked ys k x d (omega arith) e h s.1
