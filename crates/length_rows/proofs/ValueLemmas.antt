-- The values of the unknowns of a flat cube's rows and lengths.
use Rattle.std.proofs.Common.{◌≡◌, refl, sym, ap, subst, ◌∙◌, ◌≤◌, ◌<◌, ◌+◌, ◌-◌, ℕ, ℤ, pos, ◌+ℤ◌, ◌*ℤ◌, Bool, true, false, cond, nat_lt, List, [], ◌∷◌, map, length, get_or, arith}
use Rattle.std.specs.List.{AllByRecursion}
use Rattle.std.proofs.lemmas.List.{length-map, get_or-append-add, get_or-map}
use Rattle.std.proofs.lemmas.Bool.{lt-ltb, ltb-true}
use Rattle.sv_terms.specs.Language.{Word}
use Rattle.sv_linear.specs.Rows.{Compares, MeetsRow, unknowns_of}
use Rattle.sv_linear.specs.Terms.{terms_value}
use Rattle.sv_linear.specs.declared.row.Row.{Row}
use Rattle.flat_cubes.specs.Satisfying.{lengths_of, word_at}
use Rattle.flat_cubes.specs.Straight.{IsRowBelow}
use Rattle.flat_cubes.specs.declared.flat.Flat.{Flat}
use Rattle.length_rows.specs.Lengths.{AreMet, HasLengths, own_unknowns, values_of}

lt-above : (m n : ℕ) → n ≤ m → nat_lt m n ≡ false
lt-above m n l = by_test (nat_lt m n) refl
  where
    by_test : (b : Bool) → nat_lt m n ≡ b → b ≡ false
    by_test true e = absurd (let k = ltb-true m n e in omega (arith, k))
    by_test false e = refl

module _ (flat : Flat) (words : List Word) (numbers : List ℤ) where
  pub lengths-stand : HasLengths (own_unknowns flat) (values_of flat words numbers) words
  lengths-stand v =
      ap (λ b. cond b (unknowns_of numbers (lengths_of flat.registers words) (own_unknowns flat + v)) (pos (length (word_at words (own_unknowns flat + v - own_unknowns flat))))) (lt-above (own_unknowns flat + v) (own_unknowns flat) (omega arith))
      ∙ ap (λ k. pos (length (word_at words k))) (let e : own_unknowns flat + v - own_unknowns flat ≡ v = omega arith in e)

  own-value : (u : ℕ) → u < own_unknowns flat → values_of flat words numbers u ≡ unknowns_of numbers (lengths_of flat.registers words) u
  own-value u l = ap (λ b. cond b (unknowns_of numbers (lengths_of flat.registers words) u) (pos (length (word_at words (u - own_unknowns flat))))) (lt-ltb u (own_unknowns flat) l)

  pub register-stands : length numbers ≡ length flat.integers → (i : ℕ) → i < length flat.registers → values_of flat words numbers (length flat.integers + i) ≡ pos (length (word_at words (get_or flat.registers i 0)))
  register-stands n i l =
      own-value (length flat.integers + i) (omega arith)
      ∙ ap (λ k. unknowns_of numbers (lengths_of flat.registers words) (k + i)) (sym n)
      ∙ get_or-append-add numbers (map pos (lengths_of flat.registers words)) i (pos 0)
      ∙ get_or-map pos (lengths_of flat.registers words) i 0 (pos 0) (let e = length-map flat.registers (λ v. length (word_at words v)) in omega (arith, e, l))
      ∙ ap pos (get_or-map (λ v. length (word_at words v)) flat.registers i 0 0 l)

  terms-agree : (n : ℕ) (x y : ℕ → ℤ) → ((u : ℕ) → u < n → x u ≡ y u) → (ts : List (ℕ × ℤ)) → AllByRecursion (λ (t : ℕ × ℤ). t.0 < n) ts → terms_value x ts ≡ terms_value y ts
  terms-agree n x y same [] h = refl
  terms-agree n x y same (t ∷ ts) h = ap (λ z. t.1 *ℤ z +ℤ terms_value x ts) (same t.0 h.0) ∙ ap (λ z. t.1 *ℤ y t.0 +ℤ z) (terms-agree n x y same ts h.1)

  row-stays : (r : Row) → IsRowBelow (own_unknowns flat) r → MeetsRow (unknowns_of numbers (lengths_of flat.registers words)) r → MeetsRow (values_of flat words numbers) r
  row-stays r b m = subst (Compares r.kind) (ap (λ z. z +ℤ r.form.constant *ℤ pos 1) (terms-agree (own_unknowns flat) (unknowns_of numbers (lengths_of flat.registers words)) (values_of flat words numbers) (λ u l. sym (own-value u l)) r.form.coefficients b.unknowns)) m

  pub own-met : (rows : List Row) → AllByRecursion (IsRowBelow (own_unknowns flat)) rows → AllByRecursion (MeetsRow (unknowns_of numbers (lengths_of flat.registers words))) rows → AreMet (values_of flat words numbers) rows
  own-met [] b m = tt
  own-met (r ∷ rows) b m = (row-stays r b.0 m.0, own-met rows b.1 m.1)
