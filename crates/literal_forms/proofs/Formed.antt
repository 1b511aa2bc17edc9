-- Linear forms of terms over numbered unknowns, their sums and multiples.
use Rattle.std.proofs.Common.{◌≡◌, refl, sym, ap, ◌∙◌, subst, ℕ, ◌<◌, ◌≤◌, ℤ, pos, ◌+ℤ◌, ◌*ℤ◌, Bool, true, false, ◌&&◌, cond, List, [], ◌∷◌, ◌++◌, map, length, length-append, nat_eq, arith, rules, ⊎_elim, ◌⊎◌, inl, inr}
use Rattle.std.specs.Prelude.{if◌then◌else◌, FitsSigned, Result, Ok, Err}
use Rattle.std.specs.Int.{w128}
use Rattle.std.proofs.lemmas.Bool.{cases_lt}
use Rattle.std.proofs.lemmas.Bool.Decides.{Decides-eqb}
use Rattle.std.proofs.lemmas.Int.{ints}
use Rattle.sv_linear.specs.Faults.{ArePastOperands, IsPastExactly}
use Rattle.sv_linear.specs.Forms.{entry, form_value}
use Rattle.sv_linear.specs.Integers.{add-mul, mul_comm}
use Rattle.sv_linear.specs.Points.{nowhere, unit}
use Rattle.sv_linear.specs.Terms.{coefficient}
use Rattle.sv_linear.specs.declared.column.Column.{Column}
use Rattle.sv_linear.specs.declared.column.Column.TheVariants as column
use Rattle.sv_linear.specs.declared.form.Form.{Form}
use Rattle.literal_forms.specs.Literals.{SomeOf}
use Rattle.literal_forms.specs.Flats.{flat}
use Rattle.literal_forms.specs.Linear.{Linear, Unknown, Place, at_unknown, at_constant, entry_at, is_empty, is_constant, less, less_steps, minus_one, multiple_of, multiplied, product_steps, same_unknown, unknown_code, of_number, of_unknown, added, scaled, addition, scaling}
use Rattle.literal_forms.specs.Numbered.{AreNumbered, IsFormOrPast, IsMore, IsNumbered, place_in}
use Rattle.literal_forms.specs.Past.{ArePlain, IsPast}
use Rattle.sv_linear.specs.declared.fault.FormFault.{FormFault}
use Rattle.sv_linear.specs.declared.fault.FormFault.TheVariants.{Past, Memory}
use Rattle.sv_linear.specs.EntryLaws.{coefficient_value, constant_value}
use Rattle.literal_forms.specs.declared.term_form.TermForm.{TermForm}
use Rattle.literal_forms.specs.PastLaws.{some_left, some_right, some_cases}
use Rattle.literal_forms.proofs.Numbers.{same_places, place_more}

abbrev pub term_form_of : Form → Bool → TermForm
term_form_of f b = record { form = f; constant = b }

pub number_formed : (us : List (List ℤ)) (n : ℤ) (f : Form) → f.coefficients ≡ [] → f.constant ≡ n → IsNumbered us (of_number n) (term_form_of f true)
number_formed us n f e c = record {
  number = c;
  terms = λ u. sym (ap (coefficient (place_in us u)) e);
  beyond = λ k l. ap (coefficient k) e;
  constant = refl;
}

pub unknown_formed : (us : List (List ℤ)) (u : Unknown) (k : ℕ) (f : Form) → place_in us u ≡ k → k < length us → f.coefficients ≡ (k, pos 1) ∷ [] → f.constant ≡ pos 0 → IsNumbered us (of_unknown u) (term_form_of f false)
unknown_formed us u k f p l e c = record {
  number = c;
  terms = λ v. ap (λ b. cond b (pos 1) (pos 0) +ℤ pos 0) (same_places us u v k p l) ∙ sym (ap (coefficient (place_in us v)) e);
  beyond = λ j m. ap (coefficient j) e ∙ ap (λ b. cond b (pos 1) (pos 0) +ℤ pos 0) (apart j m);
  constant = refl;
}
  where
    apart : (j : ℕ) → length us ≤ j → nat_eq k j ≡ false
    apart j m = by_test (nat_eq k j) refl
      where
        by_test : (b : Bool) → nat_eq k j ≡ b → b ≡ false
        by_test false q = refl
        by_test true q = absurd (let w : k ≡ j = (Decides-eqb k j).0 q in omega arith)

abbrev pub IsMultiple : ℤ → Form → Form → Type 0
IsMultiple by f r = (x : ℕ → ℤ) (d : ℤ) → form_value x d r ≡ by *ℤ form_value x d f

abbrev pub IsSum : Form → Form → Form → Type 0
IsSum f g r = (x : ℕ → ℤ) (d : ℤ) → form_value x d r ≡ form_value x d f +ℤ form_value x d g

multiple_at : (by : ℤ) (f r : Form) → IsMultiple by f r → (k : ℕ) → coefficient k r.coefficients ≡ by *ℤ coefficient k f.coefficients
multiple_at by f r h k = coefficient_value k r ∙ h (unit k) (pos 0) ∙ ap (λ z. by *ℤ z) (sym (coefficient_value k f))

sum_at : (f g r : Form) → IsSum f g r → (k : ℕ) → coefficient k r.coefficients ≡ coefficient k f.coefficients +ℤ coefficient k g.coefficients
sum_at f g r h k = coefficient_value k r ∙ h (unit k) (pos 0) ∙ (λ i. sym (coefficient_value k f) i +ℤ sym (coefficient_value k g) i)

scaled_terms : (u : Unknown) (ts : List (Unknown × ℤ)) (k : ℤ) → multiple_of u (map (λ (t : Unknown × ℤ). (t.0, t.1 *ℤ k)) ts) ≡ multiple_of u ts *ℤ k
scaled_terms u [] k = omega (arith, ints)
scaled_terms u (t ∷ ts) k = ap (λ z. cond (same_unknown t.0 u) (t.1 *ℤ k) (pos 0) +ℤ z) (scaled_terms u ts k) ∙ step (same_unknown t.0 u) t.1 (multiple_of u ts)
  where
    spread : (a b : ℤ) → a *ℤ k +ℤ b *ℤ k ≡ (a +ℤ b) *ℤ k
    spread a b = commuted_sum a b
      where
        commuted_sum : (a b : ℤ) → a *ℤ k +ℤ b *ℤ k ≡ (a +ℤ b) *ℤ k
        commuted_sum a b = sym (add-mul a b k)

    step : (b : Bool) (a z : ℤ) → cond b (a *ℤ k) (pos 0) +ℤ z *ℤ k ≡ (cond b a (pos 0) +ℤ z) *ℤ k
    step true a z = spread a z
    step false a z = ap (λ y. y +ℤ z *ℤ k) (sym (zero_times k)) ∙ spread (pos 0) z
      where
        zero_times : (k : ℤ) → pos 0 *ℤ k ≡ pos 0
        zero_times k = omega (arith, ints)

pub added_terms : (u : Unknown) (ts us : List (Unknown × ℤ)) → multiple_of u (ts ++ us) ≡ multiple_of u ts +ℤ multiple_of u us
added_terms u [] us = omega (arith, ints)
added_terms u (t ∷ ts) us = ap (λ z. cond (same_unknown t.0 u) t.1 (pos 0) +ℤ z) (added_terms u ts us) ∙ regroup (cond (same_unknown t.0 u) t.1 (pos 0)) (multiple_of u ts) (multiple_of u us)
  where
    regroup : (a b c : ℤ) → a +ℤ (b +ℤ c) ≡ (a +ℤ b) +ℤ c
    regroup a b c = omega (arith, ints)

scaled_empty : (ts : List (Unknown × ℤ)) (k : ℤ) → is_empty {X = Unknown × ℤ} (map (λ (t : Unknown × ℤ). (t.0, t.1 *ℤ k)) ts) ≡ is_empty ts
scaled_empty [] k = refl
scaled_empty (t ∷ ts) k = refl

added_empty : (ts us : List (Unknown × ℤ)) → (is_empty ts && is_empty us) ≡ is_empty (ts ++ us)
added_empty [] us = refl
added_empty (t ∷ ts) us = refl

pub scaled_formed : (us : List (List ℤ)) (a : Linear) (f : TermForm) (by : ℤ) (r : Form) → IsNumbered us a f → IsMultiple by f.form r → IsNumbered us (scaled a by) (term_form_of r f.constant)
scaled_formed us a f by r n h = record {
  number = constant_value r ∙ h nowhere (pos 1) ∙ ap (λ z. by *ℤ z) (sym (constant_value f.form) ∙ n.number) ∙ mul_comm by a.constant;
  terms = λ u. scaled_terms u a.terms by ∙ ap (λ z. z *ℤ by) (n.terms u) ∙ mul_comm _ by ∙ sym (multiple_at by f.form r h (place_in us u));
  beyond = λ k l. multiple_at by f.form r h k ∙ ap (λ z. by *ℤ z) (n.beyond k l) ∙ times_zero by;
  constant = n.constant ∙ sym (scaled_empty a.terms by);
}
  where
    times_zero : (k : ℤ) → k *ℤ pos 0 ≡ pos 0
    times_zero k = omega (arith, ints)

pub added_formed : (us : List (List ℤ)) (a b : Linear) (f g : TermForm) (r : Form) (t : Bool) → IsNumbered us a f → IsNumbered us b g → IsSum f.form g.form r → t ≡ (f.constant && g.constant) → IsNumbered us (added a b) (term_form_of r t)
added_formed us a b f g r t m n h e = record {
  number = constant_value r ∙ h nowhere (pos 1) ∙ (λ i. (sym (constant_value f.form) ∙ m.number) i +ℤ (sym (constant_value g.form) ∙ n.number) i);
  terms = λ u. added_terms u a.terms b.terms ∙ (λ i. m.terms u i +ℤ n.terms u i) ∙ sym (sum_at f.form g.form r h (place_in us u));
  beyond = λ k l. sum_at f.form g.form r h k ∙ (λ i. m.beyond k l i +ℤ n.beyond k l i) ∙ refl;
  constant = e ∙ (λ i. m.constant i && n.constant i) ∙ added_empty a.terms b.terms;
}

-- what stands at a place of a form stands at a column of the numbered one
column_of : List (List ℤ) → Place → Column
column_of us (at_unknown u) = column.Unknown (place_in us u)
column_of us at_constant = column.Constant

entry_is : (us : List (List ℤ)) (a : Linear) (f : TermForm) → IsNumbered us a f → (p : Place) → entry_at p a ≡ entry (column_of us p) f.form
unfolding column_of
entry_is us a f n (at_unknown u) = n.terms u
entry_is us a f n at_constant = sym n.number

zero_fits : FitsSigned w128 (pos 0)
zero_fits = search rules

-- and the other way round, but for columns of no unknown, where nothing stands
place_at : (us : List (List ℤ)) → AreNumbered us → (c : Column) → ((p : Place) × ((a : Linear) (f : TermForm) → IsNumbered us a f → entry c f.form ≡ entry_at p a)) ⊎ ((a : Linear) (f : TermForm) → IsNumbered us a f → entry c f.form ≡ pos 0)
place_at us n column.Constant = inl (at_constant, λ a f h. h.number)
place_at us n (column.Unknown k) = ⊎_elim (λ l. let r = n.each k l in inl (at_unknown r.0, λ a f h. ap (λ j. coefficient j f.form.coefficients) (sym r.1) ∙ sym (h.terms r.0))) (λ l. inr (λ a f h. h.beyond k l)) (cases_lt k (length us))

module _ (us : List (List ℤ)) (a b : Linear) (f g : TermForm) (h : IsNumbered us a f) (k : IsNumbered us b g) where
  pub added_plain : ((c : Column) → FitsSigned w128 (entry c f.form +ℤ entry c g.form)) → ArePlain (addition a b ∷ [])
  added_plain p l r (inl s) =
      let c = s.0.0 in
      let e = s.0.1 ∙ entry_is us a f h s.0.0 in
      let d = s.0.2 ∙ entry_is us b g k s.0.0 in
      s.1 (subst (λ z. FitsSigned w128 z) (λ i. sym e i +ℤ sym d i) (p (column_of us s.0.0)))
  added_plain p l r (inr s) = s

  pub added_past : (l r : ℤ) → AreNumbered us → ArePastOperands (λ x y. x +ℤ y) (λ c. entry c f.form) (λ c. entry c g.form) l r → SomeOf (IsPast l r) (addition a b ∷ [])
  added_past l r n p = elim (place_at us n p.column) [
    | inl q ↦ inl ((q.0, p.left_is ∙ q.1 a f h, p.right_is ∙ q.1 b g k), p.outside)
    | inr z ↦ absurd (p.outside (subst (λ y. FitsSigned w128 y) (sym ((λ i. (p.left_is ∙ z a f h) i +ℤ (p.right_is ∙ z b g k) i) ∙ refl)) zero_fits))
  ]

module _ (us : List (List ℤ)) (a : Linear) (f : TermForm) (by : ℤ) (h : IsNumbered us a f) where
  pub scaled_plain : ((c : Column) → FitsSigned w128 (entry c f.form *ℤ by)) → ArePlain (scaling a by ∷ [])
  scaled_plain p l r (inl s) =
      let e = s.0.1 ∙ entry_is us a f h s.0.0 in
      s.1 (subst (λ z. FitsSigned w128 z) (λ i. sym e i *ℤ sym s.0.2 i) (p (column_of us s.0.0)))
  scaled_plain p l r (inr s) = s

  pub scaled_past : (l r : ℤ) → AreNumbered us → ArePastOperands (λ x y. x *ℤ y) (λ c. entry c f.form) (λ c. by) l r → SomeOf (IsPast l r) (scaling a by ∷ [])
  scaled_past l r n p = elim (place_at us n p.column) [
    | inl q ↦ inl ((q.0, p.left_is ∙ q.1 a f h, p.right_is), p.outside)
    | inr z ↦ absurd (p.outside (subst (λ y. FitsSigned w128 y) (sym (ap (λ x. x *ℤ r) (p.left_is ∙ z a f h) ∙ zero_times r)) zero_fits))
  ]
    where
      zero_times : (k : ℤ) → pos 0 *ℤ k ≡ pos 0
      zero_times k = omega (arith, ints)

-- further unknowns change nothing
pub formed_more : (us vs : List (List ℤ)) (a : Linear) (f : TermForm) → IsMore us vs → IsNumbered us a f → IsNumbered vs a f
formed_more us vs a f m n = subst (λ z. IsNumbered z a f) (sym m.whole) (record {
  number = n.number;
  terms = λ u. n.terms u ∙ placed u;
  beyond = λ k l. n.beyond k (let e = length-append us m.behind in omega arith);
  constant = n.constant;
})
  where
    placed : (u : Unknown) → coefficient (place_in us u) f.form.coefficients ≡ coefficient (place_in (us ++ m.behind) u) f.form.coefficients
    placed u = elim (place_more us m.behind (flat (unknown_code u))) [
      | inl q ↦ ap (λ k. coefficient k f.form.coefficients) (sym q.0)
      | inr q ↦ n.beyond (place_in us u) q.0 ∙ sym (n.beyond (place_in (us ++ m.behind) u) q.1)
    ]

-- what a call on a form answers
module _ (us : List (List ℤ)) (a : Linear) (f : TermForm) (by : ℤ) (n : AreNumbered us) (h : IsNumbered us a f) where
  pub scaled_err : (fault : FormFault) → IsPastExactly (λ x y. x *ℤ y) (λ c. entry c f.form) (λ c. by) (Err fault) → IsFormOrPast us (scaled a by) (scaling a by ∷ []) (Err fault)
  scaled_err (Past l r) p = scaled_past us a f by h l r n p
  scaled_err (Memory e) p = tt

module _ (us : List (List ℤ)) (a b : Linear) (f g : TermForm) (n : AreNumbered us) (h : IsNumbered us a f) (k : IsNumbered us b g) where
  pub added_err : (fault : FormFault) → IsPastExactly (λ x y. x +ℤ y) (λ c. entry c f.form) (λ c. entry c g.form) (Err fault) → IsFormOrPast us (added a b) (addition a b ∷ []) (Err fault)
  added_err (Past l r) p = added_past us a b f g h k l r n p
  added_err (Memory e) p = tt

  -- a difference: its negative first, then a sum
  pub less_failed : (e : FormFault) → ((us : List (List ℤ)) (a : Linear) → AreNumbered us → IsNumbered us a g → IsFormOrPast us (scaled a minus_one) (scaling a minus_one ∷ []) (Err e)) → IsFormOrPast us (less a b) (less_steps a b) (Err e)
  less_failed e m = by_fault e (m us b n k)
    where
      by_fault : (e : FormFault) → IsFormOrPast us (scaled b minus_one) (scaling b minus_one ∷ []) (Err e) → IsFormOrPast us (less a b) (less_steps a b) (Err e)
      by_fault (Past l r) p = some_left (IsPast l r) (scaling b minus_one ∷ []) (addition a (scaled b minus_one) ∷ []) p
      by_fault (Memory x) p = tt

  pub less_made : (d : TermForm) (q : Result TermForm FormFault) → ((us : List (List ℤ)) (a : Linear) → AreNumbered us → IsNumbered us a g → ArePlain (scaling a minus_one ∷ []) × IsNumbered us (scaled a minus_one) d)
      → ((us : List (List ℤ)) (a b : Linear) → AreNumbered us → IsNumbered us a f → IsNumbered us b d → IsFormOrPast us (added a b) (addition a b ∷ []) q) → IsFormOrPast us (less a b) (less_steps a b) q
  less_made d q m p = let x = m us b n k in by_result q x.0 (p us a (scaled b minus_one) n h x.1)
    where
      by_result : (q : Result TermForm FormFault) → ArePlain (scaling b minus_one ∷ []) → IsFormOrPast us (added a (scaled b minus_one)) (addition a (scaled b minus_one) ∷ []) q → IsFormOrPast us (less a b) (less_steps a b) q
      by_result (Ok r) x y = ((λ l r z. elim (some_cases (IsPast l r) (scaling b minus_one ∷ []) (addition a (scaled b minus_one) ∷ []) z) [ inl i ↦ x l r i | inr j ↦ y.0 l r j ]), y.1)
      by_result (Err (Past l r)) x y = some_right (IsPast l r) (scaling b minus_one ∷ []) (addition a (scaled b minus_one) ∷ []) y
      by_result (Err (Memory z)) x y = tt

  -- a product, by the one without unknowns
  pub product_right : (q : Result TermForm FormFault) (z : ℤ) → z ≡ g.form.constant → g.constant ≡ true → ((us : List (List ℤ)) (a : Linear) → AreNumbered us → IsNumbered us a f → IsFormOrPast us (scaled a z) (scaling a z ∷ []) q) → IsFormOrPast us (multiplied a b) (product_steps a b) q
  product_right q z e t m =
      let c : is_constant b ≡ true = sym k.constant ∙ t in
      let d : z ≡ b.constant = e ∙ k.number in
      subst (λ x. IsFormOrPast us (if x then scaled a b.constant else scaled b a.constant) ((if x then scaling a b.constant else scaling b a.constant) ∷ []) q) (sym c) (subst (λ y. IsFormOrPast us (scaled a y) (scaling a y ∷ []) q) d (m us a n h))

  pub product_left : (q : Result TermForm FormFault) (z : ℤ) → z ≡ f.form.constant → g.constant ≡ false → ((us : List (List ℤ)) (a : Linear) → AreNumbered us → IsNumbered us a g → IsFormOrPast us (scaled a z) (scaling a z ∷ []) q) → IsFormOrPast us (multiplied a b) (product_steps a b) q
  product_left q z e t m =
      let c : is_constant b ≡ false = sym k.constant ∙ t in
      let d : z ≡ a.constant = e ∙ h.number in
      subst (λ x. IsFormOrPast us (if x then scaled a b.constant else scaled b a.constant) ((if x then scaling a b.constant else scaling b a.constant) ∷ []) q) (sym c) (subst (λ y. IsFormOrPast us (scaled b y) (scaling b y ∷ []) q) d (m us b n k))
