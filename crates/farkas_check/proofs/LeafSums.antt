-- Sums of multiplied rows, column by column.
use Rattle.std.proofs.Common.{◌≡◌, ℕ, zero, suc, ◌+◌, ◌<◌, ◌≤◌, ℤ, pos, ◌+ℤ◌, ◌*ℤ◌, ◌≤ℤ◌, ◌<ℤ◌, List, [], ◌∷◌, length, map, get_or, drop, FitsSigned, ⊎_elim, refl, ap, sym, ◌∙◌, subst, arith}
use Rattle.std.specs.Int.{w128}
use Rattle.std.proofs.lemmas.Int.{ints}
use Rattle.std.proofs.lemmas.Bool.{cases_lt}
use Rattle.sv_linear.specs.Combining.{IsFirstOutside}
use Rattle.sv_linear.specs.Columns.{IsBefore}
use Rattle.sv_linear.specs.Divisors.{Divides}
use Rattle.sv_linear.specs.Forms.{entry}
use Rattle.sv_linear.specs.Rows.{NameUnknowns}
use Rattle.sv_linear.specs.TermLaws.{above_high}
use Rattle.sv_linear.specs.declared.column.Column.{Column}
use Rattle.sv_linear.specs.declared.column.Column.TheVariants.{Unknown, Constant}
use Rattle.sv_linear.specs.declared.form.Form.{Form}
use Rattle.sv_linear.specs.declared.row.Row.{Row}
use Rattle.farkas_check.specs.Systems.{Constraint, no_constraint, constraint_of}
use Rattle.farkas_check.specs.Closings.{combined, Allowed, OfEquations, FarkasRule, DivisorRule}
use Rattle.farkas_check.specs.Columns.{part_at}
use Rattle.farkas_check.specs.Fitting.{SumFits, LeafFits}
use Rattle.farkas_check.specs.Sums.{total_at, IsSumOf, IsFormAdded, IsNotAdded, IsColumnAdded, AreColumnsAdded}
use Rattle.farkas_check.specs.declared.leaf_sum.LeafSum.{LeafSum}
use Rattle.farkas_check.proofs.Summing.{IsSumming, summing-row, summing-fits, summing-more}

pub rows_size : (rows : List Row) → length (map constraint_of rows) ≡ length rows
rows_size [] = refl
rows_size (r ∷ rs) = ap suc (rows_size rs)

-- added at each unknown, and at the constant
pub columns_added : (sum : LeafSum) (other : Form) (by : ℤ) (numbers : List ℤ) (constant : ℤ) → AreColumnsAdded sum.numbers other.coefficients by numbers → IsColumnAdded sum.constant other.constant by constant → IsFormAdded sum other by (record { numbers = numbers; constant = constant })
columns_added sum other by numbers constant a i = record { product_fits = product; sum_fits = fits; entry_is = is }
  where
    product : (c : Column) → FitsSigned w128 (by *ℤ entry c other)
    product (Unknown u) = (a u).product_fits
    product Constant = i.product_fits

    fits : (c : Column) → FitsSigned w128 (total_at sum c +ℤ by *ℤ entry c other)
    fits (Unknown u) = (a u).sum_fits
    fits Constant = i.sum_fits

    is : (c : Column) → total_at (record { numbers = numbers; constant = constant }) c ≡ total_at sum c +ℤ by *ℤ entry c other
    is (Unknown u) = (a u).is
    is Constant = i.is

-- the sum so far, at each column
pub record IsSummingAll (rows : List Constraint) (ms : List (ℕ × ℤ)) (sum : LeafSum) (i : ℕ) : Type 0 where
  pub at : (c : Column) → IsSumming (part_at c) rows ms (total_at sum c) i
  pub fits : (c : Column) → FitsSigned w128 (total_at sum c)

pub all-row : (rows : List Constraint) (ms : List (ℕ × ℤ)) (sum : LeafSum) (i : ℕ) → IsSummingAll rows ms sum i → i < length ms → (get_or ms i (0, pos 0)).0 < length rows
all-row rows ms sum i s h = summing-row (part_at Constant) rows ms (total_at sum Constant) i (0, pos 0) (s.at Constant) h

pub all-more : (rows : List Constraint) (ms : List (ℕ × ℤ)) (sum next : LeafSum) (other : Form) (i : ℕ) → IsSummingAll rows ms sum i → i < length ms →
    ((c : Column) → entry c other ≡ part_at c (get_or rows (get_or ms i (0, pos 0)).0 no_constraint)) → IsFormAdded sum other (get_or ms i (0, pos 0)).1 next → IsSummingAll rows ms next (i + 1)
all-more rows ms sum next other i s h e a = record {
  at = λ c.
      let by = (get_or ms i (0, pos 0)).1 in
      summing-more (part_at c) rows ms (total_at sum c) (total_at next c) i (0, pos 0) (s.at c) h
      (subst (λ z. FitsSigned w128 (by *ℤ z)) (e c) (a.product_fits c))
      (subst (λ z. FitsSigned w128 (total_at sum c +ℤ by *ℤ z)) (e c) (a.sum_fits c))
      (a.entry_is c ∙ ap (λ z. total_at sum c +ℤ by *ℤ z) (e c));
  fits = λ c. subst (FitsSigned w128) (sym (a.entry_is c)) (a.sum_fits c);
}

pub all-not : (rows : List Constraint) (ms : List (ℕ × ℤ)) (sum : LeafSum) (other : Form) (i : ℕ) → IsSummingAll rows ms sum i → i < length ms →
    ((c : Column) → entry c other ≡ part_at c (get_or rows (get_or ms i (0, pos 0)).0 no_constraint)) → IsNotAdded sum other (get_or ms i (0, pos 0)).1 → LeafFits rows ms → ⊥
all-not rows ms sum other i s h e n f =
    let c = n.column in
    let by = (get_or ms i (0, pos 0)).1 in
    let g = summing-fits (part_at c) rows ms (total_at sum c) i (0, pos 0) (s.at c) h (f c) in
    n.outside (subst (λ z. FitsSigned w128 (by *ℤ z)) (sym (e c)) g.0) (subst (λ z. FitsSigned w128 (total_at sum c +ℤ by *ℤ z)) (sym (e c)) g.1)

drop_whole : (xs : List (ℕ × ℤ)) (i : ℕ) → length xs ≤ i → drop i xs ≡ []
drop_whole [] zero h = refl
drop_whole [] (suc i) h = refl
drop_whole (x ∷ xs) zero h = absurd (omega arith)
drop_whole (x ∷ xs) (suc i) h = drop_whole xs i (omega arith)

pub all-done : (rows : List Constraint) (ms : List (ℕ × ℤ)) (sum : LeafSum) (i : ℕ) → IsSummingAll rows ms sum i → length ms ≤ i → IsSumOf rows ms sum
all-done rows ms sum i s h = record {
  fits = λ c. (s.at c).back (subst (SumFits (part_at c) rows (total_at sum c)) (sym (drop_whole ms i h)) tt);
  entry_is = λ c. let e = ap (combined (part_at c) rows) (drop_whole ms i h) in omega (arith, ints, (s.at c).value, e);
}

-- sums at a column where no row has anything
pub zero_fits : (part : Constraint → ℤ) (cs : List Constraint) (ms : List (ℕ × ℤ)) (s : ℤ) → s ≡ pos 0 → ((i : ℕ) → part (get_or cs i no_constraint) ≡ pos 0) → SumFits part cs s ms
zero_fits part cs [] s z h = tt
zero_fits part cs (m ∷ ms) s z h =
    let p = ap (λ w. m.1 *ℤ w) (h m.0) in
    let q : m.1 *ℤ part (get_or cs m.0 no_constraint) ≡ pos 0 = p ∙ omega (arith, ints) in
    let r : s +ℤ m.1 *ℤ part (get_or cs m.0 no_constraint) ≡ pos 0 = omega (arith, ints, q, z) in
    (omega (arith, ints, q), (omega (arith, ints, r), zero_fits part cs ms (s +ℤ m.1 *ℤ part (get_or cs m.0 no_constraint)) r h))

pub nothing_beyond : (n u : ℕ) (rows : List Row) → NameUnknowns n rows → n ≤ u → (i : ℕ) → part_at (Unknown u) (get_or (map constraint_of rows) i no_constraint) ≡ pos 0
nothing_beyond n u [] w h i = refl
nothing_beyond n u (r ∷ rs) w h zero = above_high 0 n u r.form.coefficients (w zero r refl) h
nothing_beyond n u (r ∷ rs) w h (suc i) = nothing_beyond n u rs (λ k y e. w (suc k) y e) h i

unknown_fits : (n : ℕ) (rows : List Row) (ms : List (ℕ × ℤ)) → NameUnknowns n rows → ((u : ℕ) → u < n → SumFits (part_at (Unknown u)) (map constraint_of rows) (pos 0) ms) →
    (u : ℕ) → SumFits (part_at (Unknown u)) (map constraint_of rows) (pos 0) ms
unknown_fits n rows ms w h u =
    ⊎_elim (λ low. h u low) (λ high. zero_fits (part_at (Unknown u)) (map constraint_of rows) ms (pos 0) refl (nothing_beyond n u rows w high)) (cases_lt u n)

pub past_constant : (n : ℕ) (rows : List Row) (ms : List (ℕ × ℤ)) → NameUnknowns n rows → ((u : ℕ) → u < n → SumFits (part_at (Unknown u)) (map constraint_of rows) (pos 0) ms) →
    (LeafFits (map constraint_of rows) ms → ⊥) → IsFirstOutside (λ c. SumFits (part_at c) (map constraint_of rows) (pos 0) ms) Constant
past_constant n rows ms w h past = record { outside = λ s. past (all s); first = first }
  where
    all : SumFits (part_at Constant) (map constraint_of rows) (pos 0) ms → LeafFits (map constraint_of rows) ms
    all s (Unknown u) = unknown_fits n rows ms w h u
    all s Constant = s

    first : (c : Column) → IsBefore c Constant → SumFits (part_at c) (map constraint_of rows) (pos 0) ms
    first (Unknown u) b = unknown_fits n rows ms w h u
    first Constant b = absurd b

-- what the sum tells of the rules
pub farkas_of : (rows : List Constraint) (ms : List (ℕ × ℤ)) (f : LeafSum) → Allowed 0 rows ms → IsSumOf rows ms f → ((u : ℕ) → get_or f.numbers u (pos 0) ≡ pos 0) → pos 0 <ℤ f.constant → FarkasRule rows ms
farkas_of rows ms f a s e p = record {
  allowed = a;
  vanishes = λ u. sym (s.entry_is (Unknown u)) ∙ e u;
  above_zero = subst (λ z. pos 0 <ℤ z) (s.entry_is Constant) p;
}

pub farkas_back : (rows : List Constraint) (ms : List (ℕ × ℤ)) (f : LeafSum) → IsSumOf rows ms f → FarkasRule rows ms → ((u : ℕ) → get_or f.numbers u (pos 0) ≡ pos 0) × (pos 0 <ℤ f.constant)
farkas_back rows ms f s r = (
  (λ u. s.entry_is (Unknown u) ∙ r.vanishes u),
  subst (λ z. pos 0 <ℤ z) (sym (s.entry_is Constant)) r.above_zero,
)

pub divisor_of : (rows : List Constraint) (ms : List (ℕ × ℤ)) (d : ℤ) (f : LeafSum) → OfEquations 0 rows ms → pos 2 ≤ℤ d → IsSumOf rows ms f → ((u : ℕ) → Divides d (get_or f.numbers u (pos 0))) → (Divides d f.constant → ⊥) → DivisorRule rows ms d
divisor_of rows ms d f e two s h n = record {
  allowed = e;
  at_least_two = two;
  divides = λ u. subst (Divides d) (s.entry_is (Unknown u)) (h u);
  apart = λ k. n (subst (Divides d) (sym (s.entry_is Constant)) k);
}

pub divisor_back : (rows : List Constraint) (ms : List (ℕ × ℤ)) (d : ℤ) (f : LeafSum) → IsSumOf rows ms f → DivisorRule rows ms d → ((u : ℕ) → Divides d (get_or f.numbers u (pos 0))) × (Divides d f.constant → ⊥)
divisor_back rows ms d f s r = (
  (λ u. subst (Divides d) (sym (s.entry_is (Unknown u))) (r.divides u)),
  (λ k. r.apart (subst (Divides d) (s.entry_is Constant) k)),
)
