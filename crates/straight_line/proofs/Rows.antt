-- A form over numbered unknowns that has the coefficients of a linear form has its value.
use Rattle.std.proofs.Common.{◌≡◌, refl, sym, ap, ◌∙◌, subst, Bool, true, false, ℕ, zero, suc, ◌+◌, ◌<◌, ◌⊎◌, inl, inr, ℤ, pos, ◌+ℤ◌, ◌*ℤ◌, List, [], ◌∷◌, ◌++◌, map, length, get_or, slice_get, Some, length-append, add-one, arith, ne_eqb}
use Rattle.std.specs.Prelude.{filter, nat_eq, if◌then◌else◌}
use Rattle.std.specs.List.{AllByRecursion}
use Rattle.std.proofs.lemmas.Int.{ints}
use Rattle.std.proofs.lemmas.Bool.{eq-eqb}
use Rattle.sv_linear.specs.Integers.{add-mul}
use Rattle.sv_linear.specs.Terms.{terms_value, coefficient}
use Rattle.sv_linear.specs.Forms.{form_value}
use Rattle.sv_linear.specs.declared.row.Row.{Row}
use Rattle.literal_forms.specs.Linear.{Linear, Unknown, same_unknown}
use Rattle.literal_forms.specs.Linear as form
use Rattle.flat_cubes.specs.Flattening.{Bounded, IsRowFor, coefficient_at}
use Rattle.straight_line.proofs.Amounts.{terms_sum, linear_value}

zero_times : (z w : ℤ) → pos 0 *ℤ z +ℤ w ≡ w
zero_times z w = omega (arith, ints)

one_more : (a b x s t : ℤ) → (a +ℤ b) *ℤ x +ℤ (s +ℤ t) ≡ (a *ℤ x +ℤ s) +ℤ (b *ℤ x +ℤ t)
one_more a b x s t = ap (λ z. z +ℤ (s +ℤ t)) (add-mul a b x) ∙ omega (arith, ints)

-- an unknown doesn't stand in the list, and stands in it once
abbrev pub Nowhere : Unknown → List Unknown → Type 0
Nowhere v [] = Unit {0}
Nowhere v (w ∷ ws) = (same_unknown v w ≡ false) × Nowhere v ws

abbrev pub Once : Unknown → List Unknown → Type 0
Once v [] = ⊥
Once v (w ∷ ws) = ((same_unknown v w ≡ true) × (v ≡ w) × Nowhere v ws) ⊎ ((same_unknown v w ≡ false) × Once v ws)

times_zero : (z : ℤ) → z *ℤ pos 0 ≡ pos 0
times_zero z = omega (arith, ints)

module _ (x : Unknown → ℤ) where
  -- the sum over unknowns, numbered from k on, of what c gives at the number times the unknown's value
  abbrev pub over : (ℕ → ℤ) → ℕ → List Unknown → ℤ
  over c k [] = pos 0
  over c k (w ∷ ws) = c k *ℤ x w +ℤ over c (suc k) ws

  over_none : (k : ℕ) (ws : List Unknown) → over (λ u. pos 0) k ws ≡ pos 0
  over_none k [] = refl
  over_none k (w ∷ ws) = zero_times (x w) (over (λ u. pos 0) (suc k) ws) ∙ over_none (suc k) ws

  over_sum : (c d : ℕ → ℤ) (k : ℕ) (ws : List Unknown) → over (λ u. c u +ℤ d u) k ws ≡ over c k ws +ℤ over d k ws
  over_sum c d k [] = refl
  over_sum c d k (w ∷ ws) = ap (λ z. (c k +ℤ d k) *ℤ x w +ℤ z) (over_sum c d (suc k) ws) ∙ one_more (c k) (d k) (x w) (over c (suc k) ws) (over d (suc k) ws)

  -- one term: its number at the one place, and 0 elsewhere
  abbrev single : ℕ → ℤ → ℕ → ℤ
  single v a u = if nat_eq v u then a else pos 0

  single_below : (v : ℕ) (a : ℤ) (k : ℕ) (ws : List Unknown) → v < k → over (single v a) k ws ≡ pos 0
  single_below v a k [] h = refl
  single_below v a k (w ∷ ws) h =
      let n : nat_eq v k ≡ false = ne_eqb v k (λ e. omega arith) in
      ap (λ b. (if b then a else pos 0) *ℤ x w +ℤ over (single v a) (suc k) ws) n ∙ zero_times (x w) (over (single v a) (suc k) ws) ∙ single_below v a (suc k) ws (omega arith)

  single_at : (i : ℕ) (a : ℤ) (k : ℕ) (ws : List Unknown) → over (single (k + i) a) k ws ≡ a *ℤ get_or (map x ws) i (pos 0)
  single_at i a k [] = sym (times_zero a)
  single_at zero a k (w ∷ ws) =
      let n : nat_eq (k + 0) k ≡ true = eq-eqb (k + 0) k (omega arith) in
      ap (λ b. (if b then a else pos 0) *ℤ x w +ℤ over (single (k + 0) a) (suc k) ws) n ∙ ap (λ z. a *ℤ x w +ℤ z) (single_below (k + 0) a (suc k) ws (omega arith)) ∙ omega (arith, ints)
  single_at (suc i) a k (w ∷ ws) =
      let n : nat_eq (k + suc i) k ≡ false = ne_eqb (k + suc i) k (λ e. omega arith) in
      let m : k + suc i ≡ suc k + i = omega arith in
      ap (λ b. (if b then a else pos 0) *ℤ x w +ℤ over (single (k + suc i) a) (suc k) ws) n ∙ zero_times (x w) (over (single (k + suc i) a) (suc k) ws)
      ∙ ap (λ v. over (single v a) (suc k) ws) m ∙ single_at i a (suc k) ws

  -- a form over numbered unknowns, by its coefficients
  numbered : (cs : List (ℕ × ℤ)) (ws : List Unknown) → terms_value (λ u. get_or (map x ws) u (pos 0)) cs ≡ over (λ u. coefficient u cs) 0 ws
  numbered [] ws = sym (over_none 0 ws)
  numbered (t ∷ cs) ws =
      let z : 0 + t.0 ≡ t.0 = omega arith in
      let one : over (single t.0 t.1) 0 ws ≡ t.1 *ℤ get_or (map x ws) t.0 (pos 0) = subst (λ v. over (single v t.1) 0 ws ≡ t.1 *ℤ get_or (map x ws) t.0 (pos 0)) z (single_at t.0 t.1 0 ws) in
      ap (λ s. t.1 *ℤ get_or (map x ws) t.0 (pos 0) +ℤ s) (numbered cs ws) ∙ ap (λ s. s +ℤ over (λ u. coefficient u cs) 0 ws) (sym one) ∙ sym (over_sum (single t.0 t.1) (λ u. coefficient u cs) 0 ws)

  -- the same where the numbers are the coefficients of a linear form at the unknowns themselves
  abbrev each : List Unknown → List (Unknown × ℤ) → ℤ
  each [] ts = pos 0
  each (w ∷ ws) ts = form.multiple_of w ts *ℤ x w +ℤ each ws ts

  abbrev Match : (ℕ → ℤ) → ℕ → List Unknown → List (Unknown × ℤ) → Type 0
  Match c k [] ts = Unit {0}
  Match c k (w ∷ ws) ts = (c k ≡ form.multiple_of w ts) × Match c (suc k) ws ts

  over_each : (c : ℕ → ℤ) (k : ℕ) (ws : List Unknown) (ts : List (Unknown × ℤ)) → Match c k ws ts → over c k ws ≡ each ws ts
  over_each c k [] ts m = refl
  over_each c k (w ∷ ws) ts m = λ i. m.0 i *ℤ x w +ℤ over_each c (suc k) ws ts m.1 i

  abbrev alone : Unknown → ℤ → List Unknown → ℤ
  alone v a [] = pos 0
  alone v a (w ∷ ws) = (if same_unknown v w then a else pos 0) *ℤ x w +ℤ alone v a ws

  alone_nowhere : (v : Unknown) (a : ℤ) (ws : List Unknown) → Nowhere v ws → alone v a ws ≡ pos 0
  alone_nowhere v a [] n = refl
  alone_nowhere v a (w ∷ ws) n = ap (λ b. (if b then a else pos 0) *ℤ x w +ℤ alone v a ws) n.0 ∙ zero_times (x w) (alone v a ws) ∙ alone_nowhere v a ws n.1

  plus_zero : (z : ℤ) → z +ℤ pos 0 ≡ z
  plus_zero z = omega (arith, ints)

  alone_once : (v : Unknown) (a : ℤ) (ws : List Unknown) → Once v ws → alone v a ws ≡ a *ℤ x v
  alone_once v a [] o = absurd o
  alone_once v a (w ∷ ws) (inl o) = ap (λ b. (if b then a else pos 0) *ℤ x w +ℤ alone v a ws) o.0 ∙ ap (λ z. a *ℤ x w +ℤ z) (alone_nowhere v a ws o.2) ∙ plus_zero (a *ℤ x w) ∙ ap (λ u. a *ℤ x u) (sym o.1)
  alone_once v a (w ∷ ws) (inr o) = ap (λ b. (if b then a else pos 0) *ℤ x w +ℤ alone v a ws) o.0 ∙ zero_times (x w) (alone v a ws) ∙ alone_once v a ws o.1

  each_none : (ws : List Unknown) → each ws [] ≡ pos 0
  each_none [] = refl
  each_none (w ∷ ws) = zero_times (x w) (each ws []) ∙ each_none ws

  each_more : (t : Unknown × ℤ) (ts : List (Unknown × ℤ)) (ws : List Unknown) → each ws (t ∷ ts) ≡ alone t.0 t.1 ws +ℤ each ws ts
  each_more t ts [] = refl
  each_more t ts (w ∷ ws) = ap (λ z. ((if same_unknown t.0 w then t.1 else pos 0) +ℤ form.multiple_of w ts) *ℤ x w +ℤ z) (each_more t ts ws) ∙ one_more (if same_unknown t.0 w then t.1 else pos 0) (form.multiple_of w ts) (x w) (alone t.0 t.1 ws) (each ws ts)

  each_sum : (ts : List (Unknown × ℤ)) (ws : List Unknown) → AllByRecursion (λ (t : Unknown × ℤ). Once t.0 ws) ts → each ws ts ≡ terms_sum x ts
  each_sum [] ws h = each_none ws
  each_sum (t ∷ ts) ws h = each_more t ts ws ∙ (λ i. alone_once t.0 t.1 ws h.0 i +ℤ each_sum ts ws h.1 i)

  -- unknowns that cancel add nothing
  each_kept : (p : Unknown → Bool) (w : Unknown) (ts : List (Unknown × ℤ)) (left right : ℤ) (b : Bool) → p w ≡ b → (p w ≡ false → form.multiple_of w ts ≡ pos 0) → left ≡ right → (if b then form.multiple_of w ts *ℤ x w +ℤ left else left) ≡ form.multiple_of w ts *ℤ x w +ℤ right
  each_kept p w ts left right true e z h = ap (λ y. form.multiple_of w ts *ℤ x w +ℤ y) h
  each_kept p w ts left right false e z h = h ∙ sym (ap (λ y. y *ℤ x w +ℤ right) (z e) ∙ zero_times (x w) right)

  each_cons : (w : Unknown) (ws : List Unknown) (ts : List (Unknown × ℤ)) (b : Bool) → each (if b then w ∷ ws else ws) ts ≡ (if b then form.multiple_of w ts *ℤ x w +ℤ each ws ts else each ws ts)
  each_cons w ws ts true = refl
  each_cons w ws ts false = refl

  each_filtered : (p : Unknown → Bool) (ws : List Unknown) (ts : List (Unknown × ℤ)) → ((w : Unknown) → p w ≡ false → form.multiple_of w ts ≡ pos 0) → each (filter p ws) ts ≡ each ws ts
  each_filtered p [] ts z = refl
  each_filtered p (w ∷ ws) ts z = each_cons w (filter p ws) ts (p w) ∙ each_kept p w ts (each (filter p ws) ts) (each ws ts) (p w) refl (λ e. z w e) (each_filtered p ws ts z)

  found_at : (pre : List Unknown) (w : Unknown) (ws : List Unknown) → slice_get (pre ++ w ∷ ws) (length pre) ≡ Some w
  found_at [] w ws = refl
  found_at (p ∷ pre) w ws = found_at pre w ws

  pushed : (pre : List Unknown) (w : Unknown) (ws : List Unknown) → (pre ++ w ∷ []) ++ ws ≡ pre ++ w ∷ ws
  pushed [] w ws = refl
  pushed (p ∷ pre) w ws = ap (λ y. p ∷ y) (pushed pre w ws)

  matches_from : (a : Linear) (pre ws : List Unknown) (k : ℕ) → k ≡ length pre → Match (λ u. coefficient_at a (slice_get (pre ++ ws) u)) k ws a.terms
  matches_from a pre [] k e = tt
  matches_from a pre (w ∷ ws) k e =
      let m : suc k ≡ length (pre ++ w ∷ []) = ap suc e ∙ sym (length-append pre (w ∷ []) ∙ add-one (length pre)) in (
        ap (λ u. coefficient_at a (slice_get (pre ++ w ∷ ws) u)) e ∙ ap (coefficient_at a) (found_at pre w ws),
        subst (λ l. Match (λ u. coefficient_at a (slice_get l u)) (suc k) ws a.terms) (pushed pre w ws) (matches_from a (pre ++ w ∷ []) ws (suc k) m),
      )

  over_same : (c d : ℕ → ℤ) (k : ℕ) (ws : List Unknown) → ((u : ℕ) → c u ≡ d u) → over c k ws ≡ over d k ws
  over_same c d k [] e = refl
  over_same c d k (w ∷ ws) e = λ i. e k i *ℤ x w +ℤ over_same c d (suc k) ws e i

  -- the value of a row's form is that of the linear form that it stands for
  pub row_value : (p : Unknown → Bool) (all ws : List Unknown) (b : Bounded) (r : Row) → ws ≡ filter p all → ((w : Unknown) → p w ≡ false → form.multiple_of w b.1.terms ≡ pos 0) → IsRowFor ws b r → AllByRecursion (λ (t : Unknown × ℤ). Once t.0 all) b.1.terms → form_value (λ u. get_or (map x ws) u (pos 0)) (pos 1) r.form ≡ linear_value x b.1
  row_value p all ws b r kept z f o =
      let terms : terms_value (λ u. get_or (map x ws) u (pos 0)) r.form.coefficients ≡ terms_sum x b.1.terms =
      numbered r.form.coefficients ws ∙ over_same (λ u. coefficient u r.form.coefficients) (λ u. coefficient_at b.1 (slice_get ws u)) 0 ws f.coefficients
      ∙ over_each (λ u. coefficient_at b.1 (slice_get ws u)) 0 ws b.1.terms (matches_from b.1 [] ws 0 refl) ∙ ap (λ us. each us b.1.terms) kept ∙ each_filtered p all b.1.terms z ∙ each_sum b.1.terms all o in
      let one : r.form.constant *ℤ pos 1 ≡ r.form.constant = omega (arith, ints) in
      λ i. terms i +ℤ (one ∙ f.constant) i
