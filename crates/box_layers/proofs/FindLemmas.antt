-- A search of a box by halves.
use Rattle.std.proofs.Common.{◌≡◌, ℕ, zero, suc, ◌+◌, ◌-ℤ◌, ◌+ℤ◌, ◌*ℤ◌, ◌≤ℤ◌, ℤ, pos, List, [], ◌∷◌, unsigned_abs, sym, subst, arith}
use Rattle.std.proofs.lemmas.Int.{ints}
use Rattle.sv_linear.specs.Terms.{terms_value}
use Rattle.sv_linear.specs.Rows.{Compares, MeetsRow}
use Rattle.sv_linear.specs.declared.row.Row.{Row}
use Rattle.sv_linear.specs.declared.row.RowKind.{RowKind}
use Rattle.sv_linear.specs.declared.row.RowKind.TheVariants.{Le, Eq}
use Rattle.search_hits.specs.Regions.{IsWithin, AreWithin}
use Rattle.search_hits.specs.Boxes.{AreAt, value_at}

-- how many numbers the sides hold beside one each
abbrev pub widths : List (ℤ × ℤ) → ℕ
widths [] = 0
widths (s ∷ ss) = unsigned_abs (s.1 -ℤ s.0) + widths ss

-- a point of the box gives each unknown a value within its side
pub within-at : (sides : List (ℤ × ℤ)) (xs : List ℤ) → AreWithin sides xs → AreAt sides (value_at xs)
within-at [] xs h u s e = cc
within-at (t ∷ ts) [] h u s e = absurd h
within-at (t ∷ ts) (x ∷ xs) h zero s e = let same : t ≡ s = cc in subst (λ (r : ℤ × ℤ). IsWithin r x) same h.0
within-at (t ∷ ts) (x ∷ xs) h (suc u) s e = within-at ts xs h.1 u s e

-- bounds of a row's value, and whether it is met
compares-below : (k : RowKind) (z : ℤ) → Compares k z → z ≤ℤ pos 0
compares-below Le z h = h
compares-below Eq z h = omega (arith, ints, h)

compares-zero : (k : RowKind) (z : ℤ) → z ≡ pos 0 → Compares k z
compares-zero Le z h = omega (arith, ints, h)
compares-zero Eq z h = h

pub met-below : (x : ℕ → ℤ) (r : Row) → MeetsRow x r → (terms_value x r.form.coefficients +ℤ r.form.constant) ≤ℤ pos 0
met-below x r m = let h = compares-below r.kind (terms_value x r.form.coefficients +ℤ r.form.constant *ℤ pos 1) m in omega (arith, ints)

pub met-equation : (x : ℕ → ℤ) (r : Row) → r.kind ≡ Eq → MeetsRow x r → (terms_value x r.form.coefficients +ℤ r.form.constant) ≡ pos 0
met-equation x r k m = let h = subst (λ (k : RowKind). Compares k (terms_value x r.form.coefficients +ℤ r.form.constant *ℤ pos 1)) k m in omega (arith, ints, h)

pub meets-equation : (x : ℕ → ℤ) (r : Row) → (terms_value x r.form.coefficients +ℤ r.form.constant) ≡ pos 0 → MeetsRow x r
meets-equation x r e = compares-zero r.kind (terms_value x r.form.coefficients +ℤ r.form.constant *ℤ pos 1) (omega (arith, ints))

pub meets-inequality : (x : ℕ → ℤ) (r : Row) → r.kind ≡ Le → (terms_value x r.form.coefficients +ℤ r.form.constant) ≤ℤ pos 0 → MeetsRow x r
meets-inequality x r k e =
    let h : (terms_value x r.form.coefficients +ℤ r.form.constant *ℤ pos 1) ≤ℤ pos 0 = omega (arith, ints) in
    subst (λ (k : RowKind). Compares k (terms_value x r.form.coefficients +ℤ r.form.constant *ℤ pos 1)) (sym k) h
