-- Terms in ascending order: with a greater bound, with a term more, and looked at one by one.
use Rattle.std.proofs.Common.{◌≡◌, ℕ, suc, ◌+◌, ◌<◌, ◌≤◌, ◌^◌, ℤ, pos, ◌+ℤ◌, ◌*ℤ◌, List, [], ◌∷◌, ◌++◌, length, get_or, unsigned_abs, Bool, true, false, cond, eqb, ◌⊎◌, inl, inr, subst, sym, arith}
use Rattle.std.proofs.lemmas.Int.{ints}
use Rattle.std.proofs.lemmas.Bool.Decides.{eqb_tells}
use Rattle.sv_linear.specs.Combining.{IsSymmetric}
use Rattle.sv_linear.specs.Rows.{HasSymmetricEntries}
use Rattle.sv_linear.specs.TermLaws.{below_low}
use Rattle.sv_linear.specs.Terms.{coefficient, terms_value, AscendsWithin}
use Rattle.sv_linear.specs.declared.column.Column.TheVariants.{Unknown, Constant}
use Rattle.sv_linear.specs.declared.form.Form.{Form}

pub wider : (low high more : ℕ) (ts : List (ℕ × ℤ)) → AscendsWithin low high ts → high ≤ more → AscendsWithin low more ts
wider low high more [] a h = omega arith
wider low high more (t ∷ ts) a h = (a.0, (a.1.0, wider (t.0 + 1) high more ts a.1.1 h))

pub pushed_ascends : (low u : ℕ) (a : ℤ) (ts : List (ℕ × ℤ)) → AscendsWithin low u ts → 0 < unsigned_abs a → AscendsWithin low (suc u) (ts ++ (u, a) ∷ [])
pushed_ascends low u a [] h e = (h, (e, omega arith))
pushed_ascends low u a (t ∷ ts) h e = (h.0, (h.1.0, pushed_ascends (t.0 + 1) u a ts h.1.1 e))

-- a term at the end
pub pushed_value : (x : ℕ → ℤ) (ts : List (ℕ × ℤ)) (u : ℕ) (a : ℤ) → terms_value x (ts ++ (u, a) ∷ []) ≡ terms_value x ts +ℤ a *ℤ x u
pushed_value x [] u a = omega (arith, ints)
pushed_value x (t ∷ ts) u a = omega (arith, ints, pushed_value x ts u a)

pub ascends_within : (n low high : ℕ) (ts : List (ℕ × ℤ)) → AscendsWithin low high ts → low ≤ n → ((k : ℕ) → k < length ts → (get_or ts k (0, pos 0)).0 < n) → AscendsWithin low n ts
ascends_within n low high [] a l h = l
ascends_within n low high (t ∷ ts) a l h =
    let first = h 0 (omega arith) in
    (a.0, (a.1.0, ascends_within n (t.0 + 1) high ts a.1.1 (omega arith) (λ k p. h (suc k) (omega arith))))

coefficient_symmetric : (low high : ℕ) (ts : List (ℕ × ℤ)) → AscendsWithin low high ts → ((k : ℕ) → k < length ts → IsSymmetric (get_or ts k (0, pos 0)).1) → (u : ℕ) → IsSymmetric (coefficient u ts)
coefficient_symmetric low high [] a h u = omega arith
coefficient_symmetric low high (t ∷ ts) a h u = by (eqb t.0 u) (eqb_tells t.0 u) (coefficient_symmetric (t.0 + 1) high ts a.1.1 (λ k p. h (suc k) (omega arith)) u)
  where
    by : (b : Bool) → ((b ≡ true) × (t.0 ≡ u)) ⊎ ((b ≡ false) × (t.0 ≡ u → ⊥)) → IsSymmetric (coefficient u ts) → IsSymmetric (cond b t.1 (pos 0) +ℤ coefficient u ts)
    by true (inl e) r =
        let same = e.1 in
        let z = below_low (t.0 + 1) high u ts a.1.1 (omega arith) in
        let s : t.1 +ℤ coefficient u ts ≡ t.1 = omega (arith, ints, z) in
        subst IsSymmetric (sym s) (h 0 (omega arith))
    by true (inr e) r = absurd (cc)
    by false (inl e) r = absurd (cc)
    by false (inr e) r =
        let s : pos 0 +ℤ coefficient u ts ≡ coefficient u ts = omega (arith, ints) in
        subst IsSymmetric (sym s) r

pub entries_symmetric : (f : Form) → ((k : ℕ) → k < length f.coefficients → IsSymmetric (get_or f.coefficients k (0, pos 0)).1) → IsSymmetric f.constant → HasSymmetricEntries f
entries_symmetric f h s (Unknown u) = coefficient_symmetric 0 (2 ^ 32) f.coefficients f.ascending h u
entries_symmetric f h s Constant = s
