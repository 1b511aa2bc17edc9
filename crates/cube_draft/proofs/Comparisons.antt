-- The row of a comparison.
use Rattle.std.proofs.Common.{◌≡◌, refl, sym, ap, ◌∙◌, subst, Bool, true, false, ℕ, zero, suc, ◌^◌, ◌<◌, ◌≤◌, ◌⊎◌, inl, inr, ℤ, pos, negsuc, ◌+ℤ◌, ◌*ℤ◌, List, [], ◌∷◌, ◌++◌, map, take, length, get_or, slice_get, Option, Some, None, unsigned_abs, FitsSigned, nat_eq, arith, ne_eqb}
use Rattle.std.specs.Prelude.{if◌then◌else◌, Err}
use Rattle.std.specs.declared.alloc.AllocError.{AllocError}
use Rattle.std.specs.List.{AllByRecursion}
use Rattle.std.specs.Int.{w128}
use Rattle.std.specs.Option.{option_map}
use Rattle.std.proofs.lemmas.Bool.{cases_lt, eq-eqb, eqb-true}
use Rattle.std.proofs.lemmas.Int.{ints}
use Rattle.std.proofs.lemmas.Option.{slice_get_within, same_Some}
use Rattle.literal_forms.specs.CodeLaws.{place_got}
use Rattle.literal_forms.specs.Alike.{code_is}
use Rattle.literal_forms.specs.Flats.{flat}
use Rattle.literal_forms.specs.Linear.{Linear, Place, Step, Unknown, addition, added, at_constant, at_unknown, entry_at, less, linear, minus_one, multiple_of, same_unknown, scaled, scaling, steps, unknown_code}
use Rattle.literal_forms.specs.Numbered.{AreDifferences}
use Rattle.literal_forms.specs.Numbered.{AreNumbered, IsFormOrPast, IsNumbered, place_in, place_of}
use Rattle.literal_forms.specs.Past.{ArePlain, IsPast, IsPlainExactly, equality_steps}
use Rattle.literal_forms.specs.PastLaws.{some_left, some_right}
use Rattle.literal_forms.specs.Shapes.{Shape}
use Rattle.literal_forms.specs.declared.differences.Differences.{Differences}
use Rattle.literal_forms.specs.declared.term_form.TermForm.{TermForm}
use Rattle.literal_forms.proofs.Formed.{added_terms}
use Rattle.sv_linear.specs.Combining.{IsSymmetric}
use Rattle.sv_linear.specs.Rows.{HasSymmetricEntries}
use Rattle.sv_linear.specs.Terms.{coefficient}
use Rattle.sv_linear.specs.declared.column.Column.TheVariants as column
use Rattle.sv_linear.specs.declared.form.Form.{Form}
use Rattle.sv_linear.specs.declared.row.RowKind.{RowKind}
use Rattle.sv_terms.specs.declared.op.Op.{Op}
use Rattle.sv_terms.specs.declared.op.Op.TheVariants as op
use Rattle.cube_draft.specs.Comparing.{CanBound, CanRenumber, IsBoundBy, IsComparable, IsRenumbered, ComparisonFits, at_number, bound_by, form_by, kind_by, number_of, one, steps_by, sum_at}
use Rattle.flat_cubes.specs.Flattening.{Bounded, bounded_of, compared, opposite}
use Rattle.cube_draft.specs.Gathered.{Becomes, Gathers, IsRowAmong, Knows, coefficient_where, index_of, number_at, unknowns_at}
use Rattle.flat_cubes.specs.Met.{DraftView, with_comparison}
use Rattle.cube_draft.specs.declared.comparison.RowReading.{RowReading}
use Rattle.cube_draft.specs.declared.comparison.RowReading.TheVariants as bound
use Rattle.cube_draft.specs.declared.meeting.DraftBuilder.{DraftBuilder}
use Rattle.cube_draft.proofs.Fine.{fine_added, fine_less, fine_scaled}
use Rattle.cube_draft.proofs.Gathering.{gathers_row}
use Rattle.cube_draft.proofs.Inserted.{before_none, item_of}
use Rattle.sv_linear.specs.declared.fault.FormFault.{FormFault}
use Rattle.sv_linear.specs.declared.fault.FormFault.TheVariants as fault

-- where no step is past 128 bits only memory can lack
pub fault_memory : (us : List (List ℤ)) (a : Linear) (steps : List Step) (f : FormFault) → ArePlain steps → IsFormOrPast us a steps (Err f) → (e : AllocError) × (f ≡ fault.Memory e)
fault_memory us a steps (fault.Past l r) p h = absurd (p l r h)
fault_memory us a steps (fault.Memory e) p h = (e, refl)

pub plain_memory : (X : Type 0) (all : List Step) (f : FormFault) → ArePlain all → IsPlainExactly {X = X} all (Err f) → (e : AllocError) × (f ≡ fault.Memory e)
plain_memory X all (fault.Past l r) p h = absurd (p l r h)
plain_memory X all (fault.Memory e) p h = (e, refl)

plain_left : (ss ts : List Step) → ArePlain (ss ++ ts) → ArePlain ss
plain_left ss ts p l r h = p l r (some_left (IsPast l r) ss ts h)

plain_right : (ss ts : List Step) → ArePlain (ss ++ ts) → ArePlain ts
plain_right ss ts p l r h = p l r (some_right (IsPast l r) ss ts h)

-- the steps of a comparison
module _ (s t : Shape) where
  abbrev difference : Linear
  difference = less (linear s) (linear t)

  pub equality_plain : (b : RowReading) → ArePlain (steps_by b s t) → ArePlain (equality_steps s t)
  equality_plain bound.Zero p = p
  equality_plain bound.AtMost p = plain_left (equality_steps s t) _ p
  equality_plain bound.Below p = plain_left (equality_steps s t) _ p
  equality_plain bound.AtLeast p = plain_left (equality_steps s t) _ p
  equality_plain bound.Above p = plain_left (equality_steps s t) _ p
  equality_plain bound.Never p = p

  below_plain : (b : RowReading) → ArePlain (steps_by b s t) → b ≡ bound.Below → ArePlain (addition difference one ∷ [])
  below_plain bound.Below p e = plain_left (addition difference one ∷ []) (addition (scaled difference minus_one) one ∷ []) (plain_right (equality_steps s t) _ p)
  below_plain bound.Zero p e = absurd (cc)
  below_plain bound.AtMost p e = absurd (cc)
  below_plain bound.AtLeast p e = absurd (cc)
  below_plain bound.Above p e = absurd (cc)
  below_plain bound.Never p e = absurd (cc)

  above_plain : (b : RowReading) → ArePlain (steps_by b s t) → b ≡ bound.Above → ArePlain (addition (scaled difference minus_one) one ∷ [])
  above_plain bound.Above p e = plain_right (addition difference one ∷ []) (addition (scaled difference minus_one) one ∷ []) (plain_right (equality_steps s t) _ p)
  above_plain bound.Zero p e = absurd (cc)
  above_plain bound.AtMost p e = absurd (cc)
  above_plain bound.Below p e = absurd (cc)
  above_plain bound.AtLeast p e = absurd (cc)
  above_plain bound.Never p e = absurd (cc)

  pub can_bound : (us : List (List ℤ)) (d : Differences) (o : Op) (p : Bool) (b : RowReading) → AreDifferences us (linear s) (linear t) d → ComparisonFits o s t p → b ≡ bound_by o p → CanBound d b
  can_bound us d o p b h f e = record {
    codes = us;
    left = linear s;
    right = linear t;
    differences = h;
    below = λ g. below_plain (bound_by o p) f.plain (sym e ∙ g);
    above = λ g. above_plain (bound_by o p) f.plain (sym e ∙ g);
  }

pub subtract_memory : (X : Type 0) (s t : Shape) (o : Op) (b : Bool) (f : FormFault) → ComparisonFits o s t b → IsPlainExactly {X = X} (equality_steps s t) (Err f) → (e : AllocError) × (f ≡ fault.Memory e)
subtract_memory X s t o b f p h = plain_memory X (equality_steps s t) f (equality_plain s t (bound_by o b) p.plain) h

multiple_scaled : (u : Unknown) (xs : List (Unknown × ℤ)) → multiple_of u (map (λ (t : Unknown × ℤ). (t.0, t.1 *ℤ minus_one)) xs) ≡ multiple_of u xs *ℤ minus_one
multiple_scaled u [] = omega (arith, ints)
multiple_scaled u (x ∷ xs) = ap (λ z. (if same_unknown x.0 u then x.1 *ℤ minus_one else pos 0) +ℤ z) (multiple_scaled u xs) ∙ by_test (same_unknown x.0 u) x.1 (multiple_of u xs)
  where
    by_test : (b : Bool) (a z : ℤ) → (if b then a *ℤ minus_one else pos 0) +ℤ z *ℤ minus_one ≡ ((if b then a else pos 0) +ℤ z) *ℤ minus_one
    by_test true a z = omega (arith, ints)
    by_test false a z = omega (arith, ints)

entry_added : (c : Place) (a b : Linear) → entry_at c (added a b) ≡ entry_at c a +ℤ entry_at c b
entry_added (at_unknown u) a b = added_terms u a.terms b.terms
entry_added at_constant a b = refl

entry_scaled : (c : Place) (a : Linear) → entry_at c (scaled a minus_one) ≡ entry_at c a *ℤ minus_one
entry_scaled (at_unknown u) a = multiple_scaled u a.terms
entry_scaled at_constant a = refl

fits_of : (z : ℤ) → ((FitsSigned w128 z → ⊥) → ⊥) → FitsSigned w128 z
fits_of (pos n) h = elim (cases_lt n (2 ^ 127)) [ inl l ↦ omega (arith, ints) | inr g ↦ absurd (h (λ f. omega (arith, ints))) ]
fits_of (negsuc n) h = elim (cases_lt n (2 ^ 127)) [ inl l ↦ omega (arith, ints) | inr g ↦ absurd (h (λ f. omega (arith, ints))) ]

addition_fits : (a b : Linear) (c : Place) → ArePlain (addition a b ∷ []) → FitsSigned w128 (entry_at c a +ℤ entry_at c b)
addition_fits a b c p = fits_of _ (λ n. p (entry_at c a) (entry_at c b) (inl ((c, refl, refl), n)))

scaling_fits : (a : Linear) (k : ℤ) (c : Place) → ArePlain (scaling a k ∷ []) → FitsSigned w128 (entry_at c a *ℤ k)
scaling_fits a k c p = fits_of _ (λ n. p (entry_at c a) k (inl ((c, refl, refl), n)))

symmetric_product : (z : ℤ) → FitsSigned w128 z → FitsSigned w128 (z *ℤ minus_one) → IsSymmetric z
symmetric_product z f g = omega (arith, ints)

symmetric_negative : (z : ℤ) → IsSymmetric z → IsSymmetric (z *ℤ minus_one)
symmetric_negative z f = omega (arith, ints)

symmetric_sum : (z : ℤ) (b : Bool) → IsSymmetric z → FitsSigned w128 (z +ℤ (if b then pos 1 else pos 0)) → IsSymmetric (z +ℤ (if b then pos 1 else pos 0))
symmetric_sum z true f g = omega (arith, ints)
symmetric_sum z false f g = omega (arith, ints)

one_entry : (c : Place) → (b : Bool) × (entry_at c one ≡ (if b then pos 1 else pos 0))
one_entry (at_unknown u) = (false, refl)
one_entry at_constant = (true, refl)

symmetric_one : (b : Bool) → IsSymmetric (if b then pos 1 else pos 0)
symmetric_one true = omega (arith, ints)
symmetric_one false = omega (arith, ints)

one_more : (a : Linear) (c : Place) → IsSymmetric (entry_at c a) → ArePlain (addition a one ∷ []) → IsSymmetric (entry_at c (added a one))
one_more a c f p =
    let o = one_entry c in
    subst IsSymmetric (sym (entry_added c a one ∙ ap (λ z. entry_at c a +ℤ z) o.1)) (symmetric_sum (entry_at c a) o.0 f (subst (λ z. FitsSigned w128 (entry_at c a +ℤ z)) o.1 (addition_fits a one c p)))

module _ (s t : Shape) where
  abbrev less_of : Linear
  less_of = less (linear s) (linear t)

  less_symmetric : ArePlain (equality_steps s t) → (c : Place) → IsSymmetric (entry_at c less_of)
  less_symmetric p c =
      let sides = steps s ++ steps t in
      let apart = scaling (linear t) minus_one ∷ addition (linear s) (scaled (linear t) minus_one) ∷ [] in
      let last = plain_right (sides ++ apart) (scaling less_of minus_one ∷ []) p in
      let both = plain_right sides apart (plain_left (sides ++ apart) (scaling less_of minus_one ∷ []) p) in
      let first = plain_right (scaling (linear t) minus_one ∷ []) (addition (linear s) (scaled (linear t) minus_one) ∷ []) both in
      symmetric_product (entry_at c less_of) (subst (FitsSigned w128) (sym (entry_added c (linear s) (scaled (linear t) minus_one))) (addition_fits (linear s) (scaled (linear t) minus_one) c first)) (scaling_fits less_of minus_one c last)

  form_symmetric : (b : RowReading) → ArePlain (steps_by b s t) → (c : Place) → IsSymmetric (entry_at c (form_by b less_of))
  form_symmetric bound.Zero p c = less_symmetric p c
  form_symmetric bound.AtMost p c = less_symmetric (equality_plain s t bound.AtMost p) c
  form_symmetric bound.Below p c = one_more less_of c (less_symmetric (equality_plain s t bound.Below p) c) (below_plain s t bound.Below p refl)
  form_symmetric bound.AtLeast p c = subst IsSymmetric (sym (entry_scaled c less_of)) (symmetric_negative (entry_at c less_of) (less_symmetric (equality_plain s t bound.AtLeast p) c))
  form_symmetric bound.Above p c = one_more (scaled less_of minus_one) c (subst IsSymmetric (sym (entry_scaled c less_of)) (symmetric_negative (entry_at c less_of) (less_symmetric (equality_plain s t bound.Above p) c))) (above_plain s t bound.Above p refl)
  form_symmetric bound.Never p c = let o = one_entry c in subst IsSymmetric (sym o.1) (symmetric_one o.0)

-- the bound is that of the definition
compared_by : (o : Op) (b : Bool) (a : Linear) → compared (if b then o else opposite o) a ≡ (kind_by (bound_by o b), form_by (bound_by o b) a)
compared_by op.LessEqual true a = refl
compared_by op.LessEqual false a = refl
compared_by op.Less true a = refl
compared_by op.Less false a = refl
compared_by op.GreaterEqual true a = refl
compared_by op.GreaterEqual false a = refl
compared_by op.Greater true a = refl
compared_by op.Greater false a = refl
compared_by op.Equal true a = refl
compared_by op.Equal false a = refl
compared_by _ true a = refl
compared_by _ false a = refl

-- numbers of unknowns among the quantities
found_by : (u v : Unknown) (us : List Unknown) → ((k : ℕ) → index_of u us ≡ Some k → (w : Unknown) × (slice_get us k ≡ Some w) × (unknown_code u ≡ unknown_code w)) → (b : Bool) → same_unknown u v ≡ b → (o : Option ℕ) → index_of u us ≡ o → (j : ℕ) → (if b then Some 0 else option_map suc o) ≡ Some j
    → (w : Unknown) × (slice_get (v ∷ us) j ≡ Some w) × (unknown_code u ≡ unknown_code w)
found_by u v us f true q o p zero h = (v, refl, code_is (unknown_code u) (unknown_code v) q)
found_by u v us f true q o p (suc j) h = absurd (let n : 0 ≡ suc j = cc in omega arith)
found_by u v us f false q None p j h = absurd (cc)
found_by u v us f false q (Some i) p zero h = absurd (let n : suc i ≡ 0 = cc in omega arith)
found_by u v us f false q (Some i) p (suc j) h = let n : i ≡ j = cc in f j (p ∙ ap Some n)

index_found : (u : Unknown) (us : List Unknown) (k : ℕ) → index_of u us ≡ Some k → (w : Unknown) × (slice_get us k ≡ Some w) × (unknown_code u ≡ unknown_code w)
index_found u [] k e = absurd (cc)
index_found u (v ∷ us) k e = found_by u v us (λ j h. index_found u us j h) (same_unknown u v) refl (index_of u us) refl k e

abbrev HasNumber : List (List ℤ × ℕ) → Unknown → Type 0
HasNumber ns u = (k : ℕ) × (number_at (flat (unknown_code u)) ns ≡ Some k)

add_zero : (z : ℤ) → z ≡ pos 0 → pos 0 +ℤ z ≡ pos 0
add_zero z e = omega (arith, ints)

multiple_rest : (ns : List (List ℤ × ℕ)) (v : Unknown) (t : Unknown × ℤ) (ts : List (Unknown × ℤ)) → same_unknown t.0 v ≡ false → (multiple_of v ts ≡ pos 0) ⊎ HasNumber ns v → (multiple_of v (t ∷ ts) ≡ pos 0) ⊎ HasNumber ns v
multiple_rest ns v t ts q (inl z) = inl (ap (λ b. (if b then t.1 else pos 0) +ℤ multiple_of v ts) q ∙ add_zero (multiple_of v ts) z)
multiple_rest ns v t ts q (inr k) = inr k

multiple_by : (ns : List (List ℤ × ℕ)) (v : Unknown) (t : Unknown × ℤ) (ts : List (Unknown × ℤ)) → HasNumber ns t.0 → (multiple_of v ts ≡ pos 0) ⊎ HasNumber ns v → (b : Bool) → same_unknown t.0 v ≡ b → (multiple_of v (t ∷ ts) ≡ pos 0) ⊎ HasNumber ns v
multiple_by ns v t ts a r true q = inr (a.0, ap (λ c. number_at (flat c) ns) (sym (code_is (unknown_code t.0) (unknown_code v) q)) ∙ a.1)
multiple_by ns v t ts a r false q = multiple_rest ns v t ts q r

found_multiple : (ns : List (List ℤ × ℕ)) (v : Unknown) (ts : List (Unknown × ℤ)) → AllByRecursion (λ (t : Unknown × ℤ). (k : ℕ) × (number_at (flat (unknown_code t.0)) ns ≡ Some k)) ts → (multiple_of v ts ≡ pos 0) ⊎ HasNumber ns v
found_multiple ns v [] a = inl refl
found_multiple ns v (t ∷ ts) a = multiple_by ns v t ts a.0 (found_multiple ns v ts a.1) (same_unknown t.0 v) refl

pub nonzero : (z : ℤ) → 0 < unsigned_abs z → z ≡ pos 0 → ⊥
nonzero z h e = let k : 0 < unsigned_abs (pos 0) = subst (λ y. 0 < unsigned_abs y) e h in omega arith

module _ (m : DraftBuilder) (d : DraftView) (g : Gathers m d) (us : List (List ℤ)) (a : Linear) (f : TermForm) (coded : AreNumbered us) (is : IsNumbered us a f) (known : Knows m.numbers a) where
  abbrev all : List Unknown
  all = unknowns_at d.terms m.quantities

  abbrev ts : List (ℕ × ℤ)
  ts = f.form.coefficients

  -- a term's unknown by its code
  pub record IsCoded (t : ℕ × ℤ) : Type 0 where
    pub within : t.0 < length us
    pub unknown : Unknown
    pub place : place_in us unknown ≡ t.0
    pub code : get_or us t.0 [] ≡ flat (unknown_code unknown)
    pub number : ℕ
    pub numbered : number_of m.numbers us t ≡ Some number
    pub index : index_of unknown all ≡ Some number

  coded_at : (i : ℕ) (t : ℕ × ℤ) → i < length ts → t ≡ get_or ts i t → IsCoded t
  coded_at i t l e =
      let item = item_of 0 (2 ^ 32) i t ts f.form.ascending l e in
      let within : t.0 < length us = elim (cases_lt t.0 (length us)) [ inl h ↦ h | inr h ↦ absurd (nonzero t.1 item.0 (sym item.1 ∙ is.beyond t.0 h)) ] in
      let v = coded.each t.0 within in
      let code : get_or us t.0 [] ≡ flat (unknown_code v.0) = ap (λ k. get_or us k []) (sym v.1) ∙ place_got us (flat (unknown_code v.0)) [] (subst (λ k. k < length us) (sym v.1) within) in
      let some = found_multiple m.numbers v.0 a.terms known in
      let value : multiple_of v.0 a.terms ≡ t.1 = is.terms v.0 ∙ ap (λ k. coefficient k ts) v.1 ∙ item.1 in
      elim some [
        | inl z ↦ absurd (nonzero t.1 item.0 (sym value ∙ z))
        | inr k ↦ record { within = within; unknown = v.0; place = v.1; code = code; number = k.0; numbered = ap (λ c. number_at c m.numbers) code ∙ k.1; index = sym (g.numbers v.0) ∙ k.1 }
      ]

  abbrev AllCoded : List (ℕ × ℤ) → Type 0
  AllCoded xs = AllByRecursion IsCoded xs

  coded_from : (xs : List (ℕ × ℤ)) → ((i : ℕ) (t : ℕ × ℤ) → i < length xs → t ≡ get_or xs i t → IsCoded t) → AllCoded xs
  coded_from [] h = tt
  coded_from (x ∷ xs) h = (h 0 x (omega arith) refl, coded_from xs (λ i t l e. h (suc i) t (omega arith) e))

  all_coded : AllCoded ts
  all_coded = coded_from ts coded_at

  some_coded : (k : ℕ) (xs : List (ℕ × ℤ)) → AllCoded xs → AllCoded (take k xs)
  some_coded zero xs h = tt
  some_coded (suc k) [] h = tt
  some_coded (suc k) (x ∷ xs) h = (h.0, some_coded k xs h.1)

  -- two unknowns with one number have one place
  one_place : (v w : Unknown) (n : ℕ) → index_of v all ≡ Some n → index_of w all ≡ Some n → place_in us v ≡ place_in us w
  one_place v w n e h =
      let x = index_found v all n e in
      let y = index_found w all n h in
      let same : x.0 ≡ y.0 = same_Some x.0 y.0 (sym x.1 ∙ y.1) in
      ap (λ c. place_of us (flat c)) (x.2 ∙ ap unknown_code same ∙ sym y.2)

  at_same : (n k : ℕ) (z : ℤ) (b : Bool) → nat_eq k n ≡ b → at_number n (Some k) z ≡ (if b then z else pos 0)
  at_same n k z b e = ap (λ c. if c then z else pos 0) e

  -- what stands at a number is what stands at the place of its unknown
  term_at_number : (w : Unknown) (n : ℕ) (t : ℕ × ℤ) → index_of w all ≡ Some n → IsCoded t → at_number n (number_of m.numbers us t) t.1 ≡ (if nat_eq t.0 (place_in us w) then t.1 else pos 0)
  term_at_number w n t e c = ap (λ o. at_number n o t.1) c.numbered ∙ by_test (nat_eq t.0 (place_in us w)) refl
    where
      by_number : nat_eq t.0 (place_in us w) ≡ false → (b : Bool) → nat_eq c.number n ≡ b → at_number n (Some c.number) t.1 ≡ pos 0
      by_number q true r = absurd (let same : t.0 ≡ place_in us w = sym c.place ∙ one_place c.unknown w n (c.index ∙ ap Some (eqb-true c.number n r)) e in let k : true ≡ false = sym (eq-eqb t.0 (place_in us w) same) ∙ q in cc)
      by_number q false r = at_same n c.number t.1 false r

      by_test : (b : Bool) → nat_eq t.0 (place_in us w) ≡ b → at_number n (Some c.number) t.1 ≡ (if b then t.1 else pos 0)
      by_test true q =
          let place : t.0 ≡ place_in us w = eqb-true t.0 (place_in us w) q in
          let codes : flat (unknown_code c.unknown) ≡ flat (unknown_code w) = sym c.code ∙ ap (λ k. get_or us k []) place ∙ place_got us (flat (unknown_code w)) [] (subst (λ k. k < length us) place c.within) in
          let number : c.number ≡ n = same_Some c.number n (sym c.index ∙ sym (g.numbers c.unknown) ∙ ap (λ k. number_at k m.numbers) codes ∙ g.numbers w ∙ e) in
          at_same n c.number t.1 true (eq-eqb c.number n number)
      by_test false q = by_number q (nat_eq c.number n) refl

  sum_is : (w : Unknown) (n : ℕ) → index_of w all ≡ Some n → (xs : List (ℕ × ℤ)) → AllCoded xs → sum_at m.numbers us n xs ≡ coefficient (place_in us w) xs
  sum_is w n e [] h = refl
  sum_is w n e (t ∷ xs) h = λ i. term_at_number w n t e h.0 i +ℤ sum_is w n e xs h.1 i

  add_zeros : (y z : ℤ) → y ≡ pos 0 → z ≡ pos 0 → y +ℤ z ≡ pos 0
  add_zeros y z e h = omega (arith, ints)

  sum_beyond : (n : ℕ) → length all ≤ n → (xs : List (ℕ × ℤ)) → AllCoded xs → sum_at m.numbers us n xs ≡ pos 0
  sum_beyond n l [] h = refl
  sum_beyond n l (t ∷ xs) h =
      let x = index_found h.0.unknown all h.0.number h.0.index in
      let w = slice_get_within all h.0.number x.0 x.1 in
      add_zeros _ _ (ap (λ o. at_number n o t.1) h.0.numbered ∙ ap (λ b. if b then t.1 else pos 0) (ne_eqb h.0.number n (λ q. omega arith))) (sum_beyond n l xs h.1)

  pub can_renumber : CanRenumber m.numbers us f.form
  can_renumber = record {
    known = λ i t l e. let c = coded_at i t l e in (c.within, (c.number, c.numbered));
    apart = λ i t n l e q.
        let c = coded_at i t l e in
        let number : c.number ≡ n = same_Some c.number n (sym c.numbered ∙ q) in
        sum_is c.unknown n (c.index ∙ ap Some number) (take i ts) (some_coded i ts all_coded) ∙ ap (λ k. coefficient k (take i ts)) c.place ∙ before_none 0 (2 ^ 32) i t ts f.form.ascending l e;
  }

  module _ (r : Form) (n : IsRenumbered m.numbers us f.form r) where
    coefficients_are : (u : Unknown) (o : Option ℕ) → index_of u all ≡ o → multiple_of u a.terms ≡ coefficient_where o r.coefficients
    coefficients_are u (Some k) e = is.terms u ∙ sym (sum_is u k e ts all_coded) ∙ sym (n.coefficients k)
    coefficients_are u None e = elim (found_multiple m.numbers u a.terms known) [
      | inl z ↦ z
      | inr k ↦ absurd (let q : None ≡ Some k.0 = sym e ∙ sym (g.numbers u) ∙ k.1 in cc)
    ]

    pub row_among : (kind : RowKind) (b : Bounded) → b ≡ (kind, a) → IsRowAmong all b (record { form = r; kind = kind })
    row_among kind b e = record {
      kind = sym (ap (λ x. x.0) e);
      constant = n.constant ∙ is.number ∙ sym (ap (λ x. x.1.constant) e);
      coefficients = λ u. ap (λ x. multiple_of u x.1.terms) e ∙ coefficients_are u (index_of u all) refl;
      beyond = λ k h. n.coefficients k ∙ sum_beyond k h ts all_coded;
    }

    get_some : {X : Type 0} (xs : List X) (k : ℕ) → k < length xs → (x : X) × (slice_get xs k ≡ Some x)
    get_some [] k h = absurd (omega arith)
    get_some (x ∷ xs) zero h = (x, refl)
    get_some (x ∷ xs) (suc k) h = get_some xs k (omega arith)

    zero_symmetric : (z : ℤ) → z ≡ pos 0 → IsSymmetric z
    zero_symmetric z e = subst IsSymmetric (sym e) (omega arith)

    pub row_symmetric : ((c : Place) → IsSymmetric (entry_at c a)) → HasSymmetricEntries r
    row_symmetric h (column.Constant) = subst IsSymmetric (sym (n.constant ∙ is.number)) (h at_constant)
    row_symmetric h (column.Unknown k) = elim (cases_lt k (length all)) [
      | inl l ↦ let x = get_some all k l in subst IsSymmetric (coefficients_are x.0 (Some k) (g.apart k x.0 x.1)) (h (at_unknown x.0))
      | inr l ↦ zero_symmetric (coefficient k r.coefficients) (n.coefficients k ∙ sum_beyond k l ts all_coded)
    ]

-- the comparison as a whole
module _ (m : DraftBuilder) (s t : Shape) (o : Op) (p : Bool) where
  abbrev Known : Unknown → Type 0
  Known u = (k : ℕ) × (number_at (flat (unknown_code u)) m.numbers ≡ Some k)

  known_form : (b : RowReading) → Knows m.numbers (linear s) → Knows m.numbers (linear t) → Knows m.numbers (form_by b (less (linear s) (linear t)))
  known_form bound.Zero h k = fine_less Known (linear s) (linear t) h k
  known_form bound.AtMost h k = fine_less Known (linear s) (linear t) h k
  known_form bound.Below h k = fine_added Known (less (linear s) (linear t)) one (fine_less Known (linear s) (linear t) h k) tt
  known_form bound.AtLeast h k = fine_scaled Known (less (linear s) (linear t)) minus_one (fine_less Known (linear s) (linear t) h k)
  known_form bound.Above h k = fine_added Known (scaled (less (linear s) (linear t)) minus_one) one (fine_scaled Known (less (linear s) (linear t)) minus_one (fine_less Known (linear s) (linear t) h k)) tt
  known_form bound.Never h k = tt

  module _ (c : IsComparable m o s t p) (us : List (List ℤ)) (ds : Differences) (b : RowReading) (f : TermForm) (forms : AreDifferences us (linear s) (linear t) ds) (bound_is : b ≡ bound_by o p) (of : IsBoundBy ds b f) where
    abbrev form_of : Linear
    form_of = form_by b (less (linear s) (linear t))

    pub compared_renumber : CanRenumber m.numbers us f.form
    compared_renumber = can_renumber m c.gathered.draft c.gathered.gathers us form_of f forms.numbered (of.each us (linear s) (linear t) forms) (known_form b c.left c.right)

    pub compared_row : (n : DraftBuilder) (r : Form) (k : RowKind) → IsRenumbered m.numbers us f.form r → k ≡ kind_by b → n ≡ record m { rows = m.rows ++ (record { form = r; kind = k }) ∷ [] } → Becomes m n (with_comparison (record { op = o; left = s; right = t; positive = p }))
    compared_row n r k e q h = record {
      each = λ d g.
          let numbered = of.each us (linear s) (linear t) forms in
          let known = known_form b c.left c.right in
          let same : bounded_of (record { op = o; left = s; right = t; positive = p }) ≡ (k, form_of) = compared_by o p (less (linear s) (linear t)) ∙ (λ i. (kind_by (sym bound_is i), form_by (sym bound_is i) (less (linear s) (linear t)))) ∙ (λ i. (sym q i, form_of)) in
          subst (λ x. Gathers x (with_comparison (record { op = o; left = s; right = t; positive = p }) d)) (sym h)
          (gathers_row m d (record { op = o; left = s; right = t; positive = p }) (record { form = r; kind = k }) g (row_among m d g us form_of f forms.numbered numbered known r e k _ same)
          (row_symmetric m d g us form_of f forms.numbered numbered known r e (λ x. subst (λ y. IsSymmetric (entry_at x (form_by y (less (linear s) (linear t))))) (sym bound_is) (form_symmetric s t (bound_by o p) c.fits.plain x))));
    }
