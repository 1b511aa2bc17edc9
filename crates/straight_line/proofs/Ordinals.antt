-- The place of a number among the ascending numbers that pass a test: how many of them are below it.
use Rattle.std.proofs.Common.{◌≡◌, refl, sym, ap, ◌∙◌, subst, ℕ, zero, suc, ◌+◌, ◌<◌, ◌≤◌, ◌⊎◌, inl, inr, Bool, true, false, List, [], ◌∷◌, length, get_or, cond, arith, lt-ltb, le-ltb}
use Rattle.std.specs.Prelude.{filter, nat_lt}
use Rattle.std.specs.List.{range_with_len}
use Rattle.std.proofs.lemmas.Bool.{cases_lt}

abbrev pub below : ℕ → List ℕ → List ℕ
below f rs = filter (λ r. nat_lt r f) rs

module _ (p : ℕ → Bool) where
  abbrev pub passing : ℕ → ℕ → List ℕ
  passing k m = filter p (range_with_len k m)

  none_step : (f k : ℕ) (rest : List ℕ) (b : Bool) → f < k → below f rest ≡ [] → below f (cond b (k ∷ rest) rest) ≡ []
  none_step f k rest true h e = ap (λ t. cond t (k ∷ below f rest) (below f rest)) (le-ltb k f (omega arith)) ∙ e
  none_step f k rest false h e = e

  -- none from a number above f on is below f
  pub none_below : (f k m : ℕ) → f < k → below f (passing k m) ≡ []
  none_below f k zero h = refl
  none_below f k (suc m) h = none_step f k (passing (k + 1) m) (p k) h (none_below f (k + 1) m (omega arith))

  -- the place of f in a list is the number of those below it
  abbrev Placed : ℕ → List ℕ → Type 0
  Placed f rs = (length (below f rs) < length rs) × ((d : ℕ) → get_or rs (length (below f rs)) d ≡ f)

  placed_first : (f : ℕ) (rest : List ℕ) → below f rest ≡ [] → Placed f (f ∷ rest)
  placed_first f rest e =
      let n : below f (f ∷ rest) ≡ [] = ap (λ t. cond t (f ∷ below f rest) (below f rest)) (le-ltb f f (omega arith)) ∙ e in
      (subst (λ x. length x < suc (length rest)) (sym n) (omega arith), λ d. ap (λ x. get_or (f ∷ rest) (length x) d) n)

  placed_later : (f k : ℕ) (rest : List ℕ) (b : Bool) → k < f → Placed f rest → Placed f (cond b (k ∷ rest) rest)
  placed_later f k rest false h q = q
  placed_later f k rest true h q =
      let n : below f (k ∷ rest) ≡ k ∷ below f rest = ap (λ t. cond t (k ∷ below f rest) (below f rest)) (lt-ltb k f h) in
      (subst (λ x. length x < suc (length rest)) (sym n) (let l = q.0 in omega arith), λ d. ap (λ x. get_or (k ∷ rest) (length x) d) n ∙ q.1 d)

  placed_step : (f k m : ℕ) → p f ≡ true → f < k + suc m → (k < f) ⊎ (f ≤ k) → (k < f → Placed f (passing (k + 1) m)) → k ≤ f → Placed f (passing k (suc m))
  placed_step f k m t l (inl g) next h = placed_later f k (passing (k + 1) m) (p k) g (next g)
  placed_step f k m t l (inr g) next h =
      let e : f ≡ k = omega arith in
      let q : p k ≡ true = subst (λ x. p x ≡ true) e t in
      subst (λ b. Placed f (cond b (k ∷ passing (k + 1) m) (passing (k + 1) m))) (sym q)
      (subst (λ x. Placed f (x ∷ passing (k + 1) m)) e (placed_first f (passing (k + 1) m) (none_below f (k + 1) m (omega arith))))

  pub placed : (f k m : ℕ) → p f ≡ true → k ≤ f → f < k + m → Placed f (passing k m)
  placed f k zero t h l = absurd (omega arith)
  placed f k (suc m) t h l = placed_step f k m t l (cases_lt k f) (λ g. placed f (k + 1) m t (omega arith) (omega arith)) h
