-- A comparison is true exactly where its row is met.
use Rattle.std.proofs.Common.{◌≡◌, refl, inl, inr, cond, not, ◌++◌, sym, ap, ◌∙◌, subst, Bool, true, false, ◌↔◌, ℕ, ℤ, pos, List, [], ◌∷◌, map, get_or, Some}
use Rattle.std.specs.Prelude.{filter, if◌then◌else◌}
use Rattle.std.specs.Cmp.{signed_Decides}
use Rattle.std.specs.List.{AllByRecursion, AllZip}
use Rattle.std.specs.Ordering.{int_eq}
use Rattle.std.proofs.lemmas.Bool.{or_parts}
use Rattle.sv_list.specs.Lists.{AllByRecursion-weaker}
use Rattle.sv_list.specs.Bools.{and-true}
use Rattle.sv_linear.specs.Forms.{form_value}
use Rattle.sv_linear.specs.declared.row.Row.{Row}
use Rattle.sv_terms.specs.declared.op.Op.{Op}
use Rattle.sv_terms.specs.declared.op.Op.TheVariants as op
use Rattle.sv_terms.specs.declared.term.Term.TheVariants as term
use Rattle.sv_terms.specs.declared.value.Value.TheVariants as value
use Rattle.sv_terms.specs.Meaning.{Named, all_of, applied, applied_if, val}
use Rattle.sv_terms.specs.SortingLaws.{val-apply}
use Rattle.literal_forms.specs.Shapes.{Shape, raw}
use Rattle.literal_forms.specs.Linear.{Linear, Unknown, integer, length_of, linear, less, scaled, minus_one, of_number}
use Rattle.literal_forms.specs.Linear as form
use Rattle.flat_cubes.specs.Flattening.{Bounded, IsRowFor, all_bounded, bounded_of, compared, has_column, opposite, unknowns_of}
use Rattle.flat_cubes.specs.Members.{Among}
use Rattle.flat_cubes.specs.Met.{Comparison, DraftView}
use Rattle.sv_linear.specs.Rows.{Compares, MeetsRow}
use Rattle.straight_line.proofs.Amounts.{amount, linear_value, number_of_term, val_number}
use Rattle.straight_line.proofs.Apart.{Stands, stands_once}
use Rattle.straight_line.proofs.Compared.{HasRow, row_is, test}
use Rattle.straight_line.proofs.Meetings.{ComparisonTrue}
use Rattle.straight_line.proofs.Rows.{Once, row_value}
use Rattle.straight_line.proofs.Settled.{AreCounted, IsReady, IsNumeric, Known, rest}
use Rattle.cube_draft.proofs.Fine.{fine_added, fine_less, fine_scaled}

-- the form of a row has the unknowns of the two sides
known_compared : (ns : List (List ℕ)) (rs : List (Shape × ℕ)) (o : Op) (a : Linear) → Known ns rs a → Known ns rs (compared o a).1
known_compared ns rs op.LessEqual a h = h
known_compared ns rs op.Less a h = fine_added (Stands ns rs) a (of_number (pos 1)) h tt
known_compared ns rs op.GreaterEqual a h = fine_scaled (Stands ns rs) a minus_one h
known_compared ns rs op.Greater a h = fine_added (Stands ns rs) (scaled a minus_one) (of_number (pos 1)) (fine_scaled (Stands ns rs) a minus_one h) tt
known_compared ns rs op.Equal a h = h
known_compared ns rs _ a h = tt

-- unknowns that are kept
map_first : {X : Type 0} (f : X → Unknown) (y : X) (xs : List X) (ys : List Unknown) (b : Bool) → map f xs ≡ ys → map f (cond b (y ∷ xs) xs) ≡ cond b (f y ∷ ys) ys
map_first f y xs ys true e = ap (λ l. f y ∷ l) e
map_first f y xs ys false e = e

map_filtered : {X : Type 0} (f : X → Unknown) (p : Unknown → Bool) (xs : List X) → map f (filter (λ y. p (f y)) xs) ≡ filter p (map f xs)
map_filtered f p [] = refl
map_filtered f p (y ∷ xs) = map_first f y (filter (λ z. p (f z)) xs) (filter p (map f xs)) (p (f y)) (map_filtered f p xs)

filter_first : (b : Bool) (y : Unknown) (xs ys zs : List Unknown) → zs ≡ xs ++ ys → cond b (y ∷ zs) zs ≡ cond b (y ∷ xs) xs ++ ys
filter_first true y xs ys zs e = ap (λ l. y ∷ l) e
filter_first false y xs ys zs e = e

filter_joined : (p : Unknown → Bool) (xs ys : List Unknown) → filter p (xs ++ ys) ≡ filter p xs ++ filter p ys
filter_joined p [] ys = refl
filter_joined p (y ∷ xs) ys = filter_first (p y) y (filter p xs) (filter p ys) (filter p (xs ++ ys)) (filter_joined p xs ys)

among_mapped : (f : Comparison → Bounded) (cs : List Comparison) (c : Comparison) → Among c cs → Among (f c) (map f cs)
among_mapped f [] c a = absurd a
among_mapped f (e ∷ cs) c (inl q) = inl (ap f q)
among_mapped f (e ∷ cs) c (inr a) = inr (among_mapped f cs c a)

zero_by : (z : ℤ) → not (int_eq z (pos 0)) ≡ false → z ≡ pos 0
zero_by z e = by_test (int_eq z (pos 0)) refl e
  where
    by_test : (b : Bool) → int_eq z (pos 0) ≡ b → not b ≡ false → z ≡ pos 0
    by_test true q h = (signed_Decides z (pos 0)).0 q
    by_test false q h = absurd (cc)

-- one without a column that isn't 0 has none in any form
no_column : (w : Unknown) (bs : List Bounded) (b : Bounded) → Among b bs → has_column bs w ≡ false → form.multiple_of w b.1.terms ≡ pos 0
no_column w [] b a e = absurd a
no_column w (c ∷ bs) b (inl q) e = ap (λ y. form.multiple_of w y.1.terms) (sym q) ∙ zero_by (form.multiple_of w c.1.terms) (or_parts (not (int_eq (form.multiple_of w c.1.terms) (pos 0))) (has_column bs w) e).0
no_column w (c ∷ bs) b (inr a) e = no_column w bs b a (or_parts (not (int_eq (form.multiple_of w c.1.terms) (pos 0))) (has_column bs w) e).1

module _ (values : Named) where
  truth_is : (a b : Bool) → Some (value.Truth a) ≡ Some (value.Truth b) → a ≡ b
  truth_is a b e = cc

  applied_is : (o : Op) (b : Bool) (m n : ℤ) → HasRow o b → applied o (value.Number m ∷ value.Number n ∷ []) ≡ Some (value.Truth (test o m n))
  applied_is op.LessEqual b m n h = ap (λ c. Some (value.Truth c)) (and-true _)
  applied_is op.Less b m n h = ap (λ c. Some (value.Truth c)) (and-true _)
  applied_is op.GreaterEqual b m n h = ap (λ c. Some (value.Truth c)) (and-true _)
  applied_is op.Greater b m n h = ap (λ c. Some (value.Truth c)) (and-true _)
  applied_is op.Equal true m n h = ap (λ c. Some (value.Truth c)) (and-true (int_eq m n))
  applied_is op.Equal false m n h = absurd h
  applied_is _ b m n h = absurd h

  -- the comparison is the test of the numbers of its sides
  is_test : (o : Op) (b : Bool) (l r : Shape) → HasRow o b → IsNumeric values l → IsNumeric values r → val values (term.Apply o (raw l ∷ raw r ∷ [])) ≡ Some (value.Truth (test o (number_of_term values l) (number_of_term values r)))
  is_test o b l r h p q = val-apply values o (raw l ∷ raw r ∷ []) ∙ (λ i. applied_if o (all_of (val_number values l p.0 p.1.0 i ∷ val_number values r q.0 q.1.0 i ∷ []))) ∙ applied_is o b (number_of_term values l) (number_of_term values r) h

  module _ (d : DraftView) (counted : AreCounted values d.terms (rest d)) where
    abbrev pub amounts : ℕ → ℤ
    amounts u = get_or (map (amount values) (unknowns_of d)) u (pos 0)

    -- the unknowns of the rows are those of all that have a column that isn't 0
    abbrev all_unknowns : List Unknown
    all_unknowns = map integer d.integers ++ map (λ (r : Shape × ℕ). length_of r.0) d.registers

    unknowns_kept : unknowns_of d ≡ filter (has_column (all_bounded d)) all_unknowns
    unknowns_kept =
        (λ i. map_filtered integer (has_column (all_bounded d)) d.integers i ++ map_filtered (λ (r : Shape × ℕ). length_of r.0) (has_column (all_bounded d)) d.registers i)
        ∙ sym (filter_joined (has_column (all_bounded d)) (map integer d.integers) (map (λ (r : Shape × ℕ). length_of r.0) d.registers))

    comparison_row : (c : Comparison) (r : Row) → Among c d.comparisons → IsReady values d.integers d.registers c → IsRowFor (unknowns_of d) (bounded_of c) r → ComparisonTrue values c ↔ MeetsRow amounts r
    comparison_row c r m h f =
        let e = is_test c.op c.positive c.left c.right h.row h.left h.right in
        let k = row_is (amount values) (linear c.left) (linear c.right) c.op c.positive h.row in
        let known = known_compared d.integers d.registers (if c.positive then c.op else opposite c.op) (less (linear c.left) (linear c.right)) (fine_less (Stands d.integers d.registers) (linear c.left) (linear c.right) h.known_left h.known_right) in
        let once : AllByRecursion (λ (t : Unknown × ℤ). Once t.0 all_unknowns) (bounded_of c).1.terms = AllByRecursion-weaker (λ (t : Unknown × ℤ). Stands d.integers d.registers t.0) (λ (t : Unknown × ℤ). Once t.0 all_unknowns) (λ t s. stands_once d.integers d.registers counted.integers counted.registers t.0 s) (bounded_of c).1.terms known in
        let v : form_value amounts (pos 1) r.form ≡ linear_value (amount values) (bounded_of c).1 = row_value (amount values) (has_column (all_bounded d)) all_unknowns (unknowns_of d) (bounded_of c) r unknowns_kept (λ w e. no_column w (all_bounded d) (bounded_of c) (among_mapped bounded_of d.comparisons c m) e) f once in (
          λ t. subst (λ z. Compares r.kind z) (sym v) (subst (λ q. Compares q (linear_value (amount values) (bounded_of c).1)) (sym f.kind) (k.0 (truth_is (test c.op (number_of_term values c.left) (number_of_term values c.right)) c.positive (sym e ∙ t)))),
          λ m. e ∙ ap (λ b. Some (value.Truth b)) (k.1 (subst (λ q. Compares q (linear_value (amount values) (bounded_of c).1)) f.kind (subst (λ z. Compares r.kind z) v m))),
        )

    pub comparisons_rows : (cs : List Comparison) (rows : List Row) → ((c : Comparison) → Among c cs → Among c d.comparisons) → AllByRecursion (IsReady values d.integers d.registers) cs → AllZip (IsRowFor (unknowns_of d)) (map bounded_of cs) rows → AllByRecursion (ComparisonTrue values) cs ↔ AllByRecursion (MeetsRow amounts) rows
    comparisons_rows [] [] m h z = (λ a. tt, λ a. tt)
    comparisons_rows [] (r ∷ rows) m h z = absurd z
    comparisons_rows (c ∷ cs) [] m h z = absurd z
    comparisons_rows (c ∷ cs) (r ∷ rows) m h z =
        let p = comparison_row c r (m c (inl refl)) h.0 z.0 in
        let q = comparisons_rows cs rows (λ e a. m e (inr a)) h.1 z.1 in
        (λ a. (p.0 a.0, q.0 a.1), λ a. (p.1 a.0, q.1 a.1))
