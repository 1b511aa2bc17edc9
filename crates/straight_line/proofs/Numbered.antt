-- Rows over the unknowns that are kept name no others, and hold no number but symmetric ones.
use Rattle.std.proofs.Common.{◌≡◌, refl, sym, subst, ℕ, suc, ◌+◌, ◌^◌, ◌<◌, ◌≤◌, ℤ, List, [], ◌∷◌, ◌++◌, get_or, Option, Some, None, unsigned_abs, arith}
use Rattle.std.specs.Prelude.{slice_get}
use Rattle.std.specs.List.{AllByRecursion, AllZip}
use Rattle.sv_list.specs.Lists.{AllByRecursion-append}
use Rattle.sv_linear.specs.Rows.{HasSymmetricEntries}
use Rattle.sv_linear.specs.TermLaws.{term_here}
use Rattle.sv_linear.specs.Terms.{AscendsWithin, coefficient}
use Rattle.sv_linear.specs.declared.column.Column.TheVariants.{Constant, Unknown}
use Rattle.sv_linear.specs.declared.row.Row.{Row}
use Rattle.sv_linear.proofs.Ascending.{AscendsWithin-append}
use Rattle.straight_line.specs.Columns.{AreNumbersWithin, IsRenumberedRow, Rises, chosen, with_term}
use Rattle.flat_cubes.specs.Straight.{IsRowBelow}
use Rattle.straight_line.proofs.Chosen.{chosen_within}

abbrev IsSmall : ℕ × ℤ → Type 0
IsSmall t = unsigned_abs t.1 < 2 ^ 127

all_at_places : {X : Type 0} (P : X → Type 0) (xs : List X) → ((k : ℕ) (x : X) → slice_get xs k ≡ Some x → P x) → AllByRecursion P xs
all_at_places P [] h = tt
all_at_places P (x ∷ xs) h = (h 0 x refl, all_at_places P xs (λ k y e. h (suc k) y e))

-- each coefficient of a row is what it has at the unknown
terms_small : (high : ℕ) (ts : List (ℕ × ℤ)) → AscendsWithin 0 high ts → ((u : ℕ) → unsigned_abs (coefficient u ts) < 2 ^ 127) → AllByRecursion IsSmall ts
terms_small high ts a h = all_at_places IsSmall ts (λ k t e. subst (λ z. unsigned_abs z < 2 ^ 127) (term_here 0 high ts k t a e).is (h t.0))

chosen_small : (base : ℕ) (numbers : List (Option ℕ)) (ts : List (ℕ × ℤ)) → AllByRecursion IsSmall ts → AllByRecursion IsSmall (chosen base numbers ts)
chosen_small base numbers [] a = tt
chosen_small base numbers (t ∷ ts) a = by_number (get_or numbers t.0 None) (chosen_small base numbers ts a.1)
  where
    by_number : (o : Option ℕ) → AllByRecursion IsSmall (chosen base numbers ts) → AllByRecursion IsSmall (with_term base o t.1 (chosen base numbers ts))
    by_number None h = h
    by_number (Some k) h = (a.0, h)

unknowns_below : (low high : ℕ) (ts : List (ℕ × ℤ)) → AscendsWithin low high ts → (low ≤ high) × AllByRecursion (λ (t : ℕ × ℤ). t.0 < high) ts
unknowns_below low high [] a = (a, tt)
unknowns_below low high (t ∷ ts) a =
    let r = unknowns_below (t.0 + 1) high ts a.1.1 in
    let l = a.0 in
    let m = r.0 in
    (omega arith, (omega arith, r.1))

module _ (base n : ℕ) (integers registers : List (Option ℕ)) (rise : Rises integers) (rise' : Rises registers) (within : AreNumbersWithin base integers) (within' : AreNumbersWithin n registers) where
  row_numbered : (r r' : Row) → AscendsWithin 0 (2 ^ 32) r.form.coefficients → HasSymmetricEntries r.form → IsRenumberedRow base integers registers r r' → IsRowBelow (base + n) r'
  row_numbered r r' a s g =
      let ts = r.form.coefficients in
      let front = chosen_within 0 integers rise 0 (2 ^ 32) 0 base ts a (omega arith) (λ u k m h q. let l = within u k q in (omega arith, omega arith)) in
      let back = chosen_within base registers rise' 0 (2 ^ 32) base (base + n) ts a (omega arith) (λ u k m h q. let l = within' u k q in (omega arith, omega arith)) in
      let small = terms_small (2 ^ 32) ts a (λ u. s (Unknown u)) in
      record {
        unknowns = subst (AllByRecursion (λ (t : ℕ × ℤ). t.0 < base + n)) (sym g.coefficients) (unknowns_below 0 (base + n) (chosen 0 integers ts ++ chosen base registers ts) (AscendsWithin-append 0 base (base + n) (chosen 0 integers ts) (chosen base registers ts) front back)).1;
        constant = subst (λ z. unsigned_abs z < 2 ^ 127) (sym g.constant) (s Constant);
        coefficients = subst (AllByRecursion IsSmall) (sym g.coefficients) (AllByRecursion-append IsSmall (chosen 0 integers ts) (chosen base registers ts) (chosen_small 0 integers ts small) (chosen_small base registers ts small));
      }

  pub rows_numbered : (rows rows' : List Row) → AllByRecursion (λ (r : Row). HasSymmetricEntries r.form) rows → AllZip (IsRenumberedRow base integers registers) rows rows' → AllByRecursion (IsRowBelow (base + n)) rows'
  rows_numbered [] [] s g = tt
  rows_numbered [] (r' ∷ rows') s g = absurd g
  rows_numbered (r ∷ rows) [] s g = absurd g
  rows_numbered (r ∷ rows) (r' ∷ rows') s g = (row_numbered r r' r.form.ascending s.0 g.0, rows_numbered rows rows' s.1 g.1)
