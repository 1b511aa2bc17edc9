-- Pieces that aren't empty, and powers and repetition of a language.
use Rattle.std.proofs.Common.{◌≡◌, ℕ, zero, suc, ◌+◌, ◌≤◌, [], ◌∷◌, refl, sym, subst, arith}
use Rattle.sv_terms.specs.Language.{Word, Repeated, done, more, Power}
use Rattle.regex_machine.proofs.CopyLemmas.{Pieces, last, piece}

module _ (P : Word → Type 0) where
  pub pieces-power : (n : ℕ) (w : Word) → Pieces P n w → Power P n w
  pieces-power zero w last = refl
  pieces-power (suc n) w (piece {c = c} {u = u} {v = v} is q p) = (c ∷ u, v, is, q, pieces-power n v p)

  -- without the empty pieces
  pub power-pieces : (n : ℕ) (w : Word) → Power P n w → (k : ℕ) × (k ≤ n) × Pieces P k w
  power-pieces zero w e = (0, omega arith, subst (Pieces P 0) (sym e) last)
  power-pieces (suc n) w ([], v, is, q, rest) =
      let r = power-pieces n v rest in
      (r.0, (let b = r.1 in omega arith), subst (Pieces P r.0) (sym is) r.2)
  power-pieces (suc n) w (c ∷ u, v, is, q, rest) =
      let r = power-pieces n v rest in
      (suc r.0, (let b = r.1 in omega arith), piece is q r.2)

  -- where no piece is empty there are as many
  pub power-all : (P [] → ⊥) → (n : ℕ) (w : Word) → Power P n w → Pieces P n w
  power-all none zero w e = subst (Pieces P 0) (sym e) last
  power-all none (suc n) w ([], v, is, q, rest) = absurd (none q)
  power-all none (suc n) w (c ∷ u, v, is, q, rest) = piece is q (power-all none n v rest)

  -- where the empty word is a piece there may be more
  pub power-more : P [] → (n d : ℕ) (w : Word) → Power P n w → Power P (d + n) w
  power-more q n zero w h = subst (λ k. Power P k w) (let e : n ≡ 0 + n = omega arith in e) h
  power-more q n (suc d) w h = subst (λ k. Power P k w) (let e : suc (d + n) ≡ suc d + n = omega arith in e) ([], w, refl, q, power-more q n d w h)

  pub pieces-repeated : (n : ℕ) (w : Word) → Pieces P n w → Repeated P w
  pieces-repeated zero w last = done
  pieces-repeated (suc n) w (piece {v = v} is q p) = more is q (pieces-repeated n v p)

  pub repeated-pieces : (w : Word) → Repeated P w → (n : ℕ) × Pieces P n w
  repeated-pieces w done = (0, last)
  repeated-pieces w (more {v = v} is q h) = let r = repeated-pieces v h in (suc r.0, piece is q r.1)
