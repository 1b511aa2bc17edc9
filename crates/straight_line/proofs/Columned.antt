-- The rows of a flat cube are those of the comparisons over the unknowns that are kept.
use Rattle.std.proofs.Common.{◌≡◌, refl, sym, ap, ◌∙◌, ℕ, zero, suc, ◌+◌, ◌-◌, ◌^◌, ◌<◌, ◌≤◌, inl, inr, ℤ, pos, ◌+ℤ◌, List, [], ◌∷◌, ◌++◌, length, get_or, length-append, Option, Some, None, arith}
use Rattle.std.specs.Prelude.{slice_get}
use Rattle.std.specs.List.{AllZip}
use Rattle.std.proofs.lemmas.Int.{ints}
use Rattle.std.proofs.lemmas.Bool.{cases_lt}
use Rattle.sv_linear.specs.TermLaws.{above_high, below_low, coefficient-append}
use Rattle.sv_linear.specs.Terms.{AscendsWithin, coefficient}
use Rattle.sv_linear.specs.declared.row.Row.{Row}
use Rattle.literal_forms.specs.Linear.{Unknown}
use Rattle.straight_line.specs.Columns.{AreNumbersWithin, IsRenumberedRow, Rises, chosen}
use Rattle.flat_cubes.specs.Flattening.{Bounded, IsRowFor, coefficient_at}
use Rattle.straight_line.proofs.Chosen.{chosen_coefficient, chosen_within}

-- each number below n is that of an unknown, which stands at this place of the list
abbrev pub ReachesAll : List Unknown → List (Option ℕ) → List Unknown → Type 0
ReachesAll us numbers kept = (v : ℕ) (x : Unknown) → slice_get kept v ≡ Some x → (u : ℕ) × (get_or numbers u None ≡ Some v) × (slice_get us u ≡ Some x)

module _ (us xs ys : List Unknown) (integers registers : List (Option ℕ)) (rise : Rises integers) (rise' : Rises registers) (within : AreNumbersWithin (length xs) integers) (within' : AreNumbersWithin (length ys) registers) (reach : ReachesAll us integers xs) (reach' : ReachesAll us registers ys) where
  abbrev base : ℕ
  base = length xs

  no_integer : (v : ℕ) (ts : List (ℕ × ℤ)) → AscendsWithin 0 (2 ^ 32) ts → base ≤ v → coefficient v (chosen 0 integers ts) ≡ pos 0
  no_integer v ts a l = above_high 0 base v (chosen 0 integers ts) (chosen_within 0 integers rise 0 (2 ^ 32) 0 base ts a (omega arith) (λ u k m h q. let s = within u k q in (omega arith, omega arith))) l

  no_register : (v : ℕ) (ts : List (ℕ × ℤ)) → AscendsWithin 0 (2 ^ 32) ts → v < base → coefficient v (chosen base registers ts) ≡ pos 0
  no_register v ts a l = below_low base (base + length ys) v (chosen base registers ts) (chosen_within base registers rise' 0 (2 ^ 32) base (base + length ys) ts a (omega arith) (λ u k m h q. let s = within' u k q in (omega arith, omega arith))) l

  nothing : (v : ℕ) (ts : List (ℕ × ℤ)) → AscendsWithin 0 (2 ^ 32) ts → base + length ys ≤ v → coefficient v (chosen base registers ts) ≡ pos 0
  nothing v ts a l = above_high base (base + length ys) v (chosen base registers ts) (chosen_within base registers rise' 0 (2 ^ 32) base (base + length ys) ts a (omega arith) (λ u k m h q. let s = within' u k q in (omega arith, omega arith))) l

  at_front : (v : ℕ) → v < length xs → slice_get (xs ++ ys) v ≡ slice_get xs v
  at_front v l = go xs v l
    where
      go : (zs : List Unknown) (v : ℕ) → v < length zs → slice_get (zs ++ ys) v ≡ slice_get zs v
      go [] v l = absurd (omega arith)
      go (z ∷ zs) zero l = refl
      go (z ∷ zs) (suc v) l = go zs v (omega arith)

  at_back : (v : ℕ) → slice_get (xs ++ ys) (base + v) ≡ slice_get ys v
  at_back v = go xs v
    where
      go : (zs : List Unknown) (v : ℕ) → slice_get (zs ++ ys) (length zs + v) ≡ slice_get ys v
      go [] v = ap (slice_get ys) (omega arith)
      go (z ∷ zs) v = let e : suc (length zs) + v ≡ suc (length zs + v) = omega arith in ap (slice_get (z ∷ (zs ++ ys))) e ∙ go zs v

  there : (zs : List Unknown) (v : ℕ) → v < length zs → (x : Unknown) × (slice_get zs v ≡ Some x)
  there [] v l = absurd (omega arith)
  there (z ∷ zs) zero l = (z, refl)
  there (z ∷ zs) (suc v) l = there zs v (omega arith)

  past : (zs : List Unknown) (v : ℕ) → length zs ≤ v → slice_get zs v ≡ None
  past [] v l = refl
  past (z ∷ zs) zero l = absurd (omega arith)
  past (z ∷ zs) (suc v) l = past zs v (omega arith)

  pub row_renumbered : (b : Bounded) (r r' : Row) → AscendsWithin 0 (2 ^ 32) r.form.coefficients → IsRowFor us b r → IsRenumberedRow (length xs) integers registers r r' → IsRowFor (xs ++ ys) b r'
  row_renumbered b r r' a f g = record {
    kind = g.kind ∙ f.kind;
    constant = g.constant ∙ f.constant;
    coefficients = λ v. ap (coefficient v) g.coefficients ∙ coefficient-append v (chosen 0 integers r.form.coefficients) (chosen base registers r.form.coefficients) ∙ elim (cases_lt v base) [
      | inl l ↦
          let t = there xs v l in
          let q = reach v t.0 t.1 in
          let e : coefficient v (chosen 0 integers r.form.coefficients) ≡ coefficient q.0 r.form.coefficients = let z : 0 + v ≡ v = omega arith in ap (λ n. coefficient n (chosen 0 integers r.form.coefficients)) (sym z) ∙ chosen_coefficient 0 integers rise q.0 v q.1 r.form.coefficients in
          let n = no_register v r.form.coefficients a l in
          let s : coefficient v (chosen 0 integers r.form.coefficients) +ℤ coefficient v (chosen base registers r.form.coefficients) ≡ coefficient q.0 r.form.coefficients = omega (arith, ints, e, n) in
          s ∙ f.coefficients q.0 ∙ ap (coefficient_at b.1) (q.2 ∙ sym t.1 ∙ sym (at_front v l))
      | inr l ↦ elim (cases_lt v (base + length ys)) [
        | inl m ↦
            let w : base + (v - base) ≡ v = omega arith in
            let t = there ys (v - base) (omega arith) in
            let q = reach' (v - base) t.0 t.1 in
            let e : coefficient v (chosen base registers r.form.coefficients) ≡ coefficient q.0 r.form.coefficients = ap (λ n. coefficient n (chosen base registers r.form.coefficients)) (sym w) ∙ chosen_coefficient base registers rise' q.0 (v - base) q.1 r.form.coefficients in
            let n = no_integer v r.form.coefficients a l in
            let s : coefficient v (chosen 0 integers r.form.coefficients) +ℤ coefficient v (chosen base registers r.form.coefficients) ≡ coefficient q.0 r.form.coefficients = omega (arith, ints, e, n) in
            s ∙ f.coefficients q.0 ∙ ap (coefficient_at b.1) (q.2 ∙ sym t.1 ∙ sym (at_back (v - base)) ∙ ap (slice_get (xs ++ ys)) w)
        | inr m ↦
            let n = no_integer v r.form.coefficients a l in
            let p = nothing v r.form.coefficients a m in
            let s : coefficient v (chosen 0 integers r.form.coefficients) +ℤ coefficient v (chosen base registers r.form.coefficients) ≡ pos 0 = omega (arith, ints, n, p) in
            s ∙ ap (coefficient_at b.1) (sym (past (xs ++ ys) v (let k = length-append xs ys in omega arith)))
      ]
    ];
  }

  pub rows_renumbered : (bs : List Bounded) (rows rows' : List Row) → AllZip (IsRowFor us) bs rows → AllZip (IsRenumberedRow (length xs) integers registers) rows rows' → AllZip (IsRowFor (xs ++ ys)) bs rows'
  rows_renumbered [] [] [] f g = tt
  rows_renumbered [] [] (r' ∷ rows') f g = absurd g
  rows_renumbered [] (r ∷ rows) rows' f g = absurd f
  rows_renumbered (b ∷ bs) [] rows' f g = absurd f
  rows_renumbered (b ∷ bs) (r ∷ rows) [] f g = absurd g
  rows_renumbered (b ∷ bs) (r ∷ rows) (r' ∷ rows') f g = (row_renumbered b r r' r.form.ascending f.0 g.0, rows_renumbered bs rows rows' f.1 g.1)
