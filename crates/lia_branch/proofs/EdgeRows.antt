-- Sums of edges' unknowns, one edge after another, and the rows that they make.
use Rattle.std.proofs.Common.{◌≡◌, ◌≢◌, ℕ, zero, suc, ◌+◌, ◌<◌, ◌≤◌, ◌^◌, ℤ, pos, neg_ℤ, ◌+ℤ◌, ◌*ℤ◌, List, [], ◌∷◌, ◌++◌, length, take, slice_get, slice_set, get_or, replicate, Some, Bool, true, false, cond, ◌||◌, ◌&&◌, not, unsigned_abs, nat_eq, ⊎_elim, refl, ap, sym, ◌∙◌, subst, arith, take_all}
use Rattle.std.specs.Prelude.{All}
use Rattle.std.proofs.lemmas.Int.{ints}
use Rattle.std.proofs.lemmas.Bool.{cases_lt, or_right}
use Rattle.std.proofs.lemmas.Bool.Decides.{nat_tests, eqb_tells}
use Rattle.std.proofs.lemmas.List.{take_more}
use Rattle.std.proofs.lemmas.List.Elements.{All-head, All-tail}
use Rattle.sv_linear.specs.EntryLaws.{entry_of_sum, coefficient_value, constant_value}
use Rattle.sv_linear.specs.Forms.{form_value, entry}
use Rattle.sv_linear.specs.Points.{unit, nowhere, coefficient_is_value, value_nowhere}
use Rattle.sv_linear.specs.TermLaws.{term_here}
use Rattle.sv_linear.specs.Terms.{coefficient, terms_value, AscendsWithin}
use Rattle.sv_linear.specs.declared.column.Column.{Column}
use Rattle.sv_linear.specs.declared.column.Column.TheVariants.{Unknown, Constant}
use Rattle.sv_linear.specs.declared.form.Form.{Form}
use Rattle.farkas_check.specs.Closings.{contains_number, edges_out, edges_in}
use Rattle.farkas_check.specs.Cuts.{IsNetWithin}
use Rattle.farkas_check.specs.declared.net.Net.{Net}
use Rattle.farkas_check.specs.declared.net.NetEdge.{NetEdge}
use Rattle.lia_branch.specs.EdgeSums.{side_terms, side_sign, picks, AreSetMarks, IsSideSum}
use Rattle.lia_branch.specs.declared.edge_sums.EdgeSide.{EdgeSide}
use Rattle.lia_branch.specs.declared.edge_sums.EdgeSide.TheVariants.{Out, In}

pushed_coefficient : (v : ℕ) (ts : List (ℕ × ℤ)) (u : ℕ) (a : ℤ) → coefficient v (ts ++ (u, a) ∷ []) ≡ coefficient v ts +ℤ cond (nat_eq u v) a (pos 0)
pushed_coefficient v [] u a = omega (arith, ints)
pushed_coefficient v (t ∷ ts) u a = omega (arith, ints, pushed_coefficient v ts u a)

one_more : (z a : ℤ) (b : Bool) → unsigned_abs a ≡ 1 → unsigned_abs (z +ℤ cond b a (pos 0)) ≤ suc (unsigned_abs z)
one_more z a true e = omega (arith, ints)
one_more z a false e = omega (arith, ints)

pub pushed_small : (f r : Form) (u : ℕ) (a : ℤ) → r.coefficients ≡ f.coefficients ++ (u, a) ∷ [] → r.constant ≡ f.constant → unsigned_abs a ≡ 1 → (c : Column) → unsigned_abs (entry c r) ≤ suc (unsigned_abs (entry c f))
pushed_small f r u a e k s (Unknown v) =
    subst (λ z. unsigned_abs z ≤ suc (unsigned_abs (coefficient v f.coefficients))) (sym (ap (coefficient v) e ∙ pushed_coefficient v f.coefficients u a)) (one_more (coefficient v f.coefficients) a (nat_eq u v) s)
pushed_small f r u a e k s Constant = subst (λ z. unsigned_abs z ≤ suc (unsigned_abs f.constant)) (sym k) (omega arith)

sum_small : (y z : ℤ) → unsigned_abs z ≤ 1 → unsigned_abs (y +ℤ z) ≤ suc (unsigned_abs y)
sum_small y z h = omega (arith, ints)

pub added_small : (f g r : Form) → ((x : ℕ → ℤ) (d : ℤ) → form_value x d r ≡ form_value x d f +ℤ form_value x d g) → ((c : Column) → unsigned_abs (entry c g) ≤ 1) → (c : Column) → unsigned_abs (entry c r) ≤ suc (unsigned_abs (entry c f))
added_small f g r e h c = subst (λ z. unsigned_abs z ≤ suc (unsigned_abs (entry c f))) (sym (entry_of_sum f g r e c)) (sum_small (entry c f) (entry c g) (h c))

-- the terms of one edge more
out_more : (x : ℕ → ℤ) (set : List ℕ) (z : ℤ) (es : List NetEdge) (e : NetEdge) → terms_value x (edges_out set (es ++ e ∷ []) z) ≡ terms_value x (edges_out set es z) +ℤ cond (contains_number e.«from» set) (z *ℤ x e.unknown) (pos 0)
out_more x set z [] e = by (contains_number e.«from» set)
  where
    by : (b : Bool) → terms_value x (cond b ((e.unknown, z) ∷ []) []) ≡ pos 0 +ℤ cond b (z *ℤ x e.unknown) (pos 0)
    by true = omega (arith, ints)
    by false = omega (arith, ints)
out_more x set z (y ∷ ys) e = by (contains_number y.«from» set) (out_more x set z ys e)
  where
    by : (b : Bool) → terms_value x (edges_out set (ys ++ e ∷ []) z) ≡ terms_value x (edges_out set ys z) +ℤ cond (contains_number e.«from» set) (z *ℤ x e.unknown) (pos 0) →
        terms_value x (cond b ((y.unknown, z) ∷ edges_out set (ys ++ e ∷ []) z) (edges_out set (ys ++ e ∷ []) z)) ≡ terms_value x (cond b ((y.unknown, z) ∷ edges_out set ys z) (edges_out set ys z)) +ℤ cond (contains_number e.«from» set) (z *ℤ x e.unknown) (pos 0)
    by true h = omega (arith, ints, h)
    by false h = h

in_more : (x : ℕ → ℤ) (set : List ℕ) (z : ℤ) (es : List NetEdge) (e : NetEdge) → terms_value x (edges_in set (es ++ e ∷ []) z) ≡ terms_value x (edges_in set es z) +ℤ cond (contains_number e.to set && not (contains_number e.«from» set)) (z *ℤ x e.unknown) (pos 0)
in_more x set z [] e = by (contains_number e.to set && not (contains_number e.«from» set))
  where
    by : (b : Bool) → terms_value x (cond b ((e.unknown, z) ∷ []) []) ≡ pos 0 +ℤ cond b (z *ℤ x e.unknown) (pos 0)
    by true = omega (arith, ints)
    by false = omega (arith, ints)
in_more x set z (y ∷ ys) e = by (contains_number y.to set && not (contains_number y.«from» set)) (in_more x set z ys e)
  where
    by : (b : Bool) → terms_value x (edges_in set (ys ++ e ∷ []) z) ≡ terms_value x (edges_in set ys z) +ℤ cond (contains_number e.to set && not (contains_number e.«from» set)) (z *ℤ x e.unknown) (pos 0) →
        terms_value x (cond b ((y.unknown, z) ∷ edges_in set (ys ++ e ∷ []) z) (edges_in set (ys ++ e ∷ []) z)) ≡ terms_value x (cond b ((y.unknown, z) ∷ edges_in set ys z) (edges_in set ys z)) +ℤ cond (contains_number e.to set && not (contains_number e.«from» set)) (z *ℤ x e.unknown) (pos 0)
    by true h = omega (arith, ints, h)
    by false h = h

side_more : (side : EdgeSide) (x : ℕ → ℤ) (set : List ℕ) (es : List NetEdge) (e : NetEdge) → terms_value x (side_terms side set (es ++ e ∷ [])) ≡ terms_value x (side_terms side set es) +ℤ cond (picks side set e) (side_sign side *ℤ x e.unknown) (pos 0)
side_more Out x set es e = out_more x set (pos 1) es e
side_more In x set es e = in_more x set (neg_ℤ (pos 1)) es e

abbrev pub no_edge : NetEdge
no_edge = record { «from» = 0; to = 0; unknown = 0 }

-- the sum of the first i edges
pub record IsSummed (side : EdgeSide) (set : List ℕ) (es : List NetEdge) (f : Form) (next i : ℕ) : Type 0 where
  pub value : (x : ℕ → ℤ) (d : ℤ) → form_value x d f ≡ terms_value x (side_terms side set (take i es))
  pub small : (c : Column) → unsigned_abs (entry c f) ≤ i
  pub ascends : AscendsWithin 0 next f.coefficients
  pub bound : next ≤ 2 ^ 32

take_next : (side : EdgeSide) (x : ℕ → ℤ) (set : List ℕ) (es : List NetEdge) (i : ℕ) → i < length es →
    terms_value x (side_terms side set (take (i + 1) es)) ≡ terms_value x (side_terms side set (take i es)) +ℤ cond (picks side set (get_or es i no_edge)) (side_sign side *ℤ x (get_or es i no_edge).unknown) (pos 0)
take_next side x set es i h = ap (λ l. terms_value x (side_terms side set l)) (take_more es i no_edge h) ∙ side_more side x set (take i es) (get_or es i no_edge)

pub summed_skip : (side : EdgeSide) (set : List ℕ) (es : List NetEdge) (f : Form) (next i : ℕ) → IsSummed side set es f next i → i < length es → picks side set (get_or es i no_edge) ≡ false → IsSummed side set es f next (i + 1)
summed_skip side set es f next i s h p = record {
  value = λ x d.
      let e = ap (λ b. cond b (side_sign side *ℤ x (get_or es i no_edge).unknown) (pos 0)) p in
      omega (arith, ints, s.value x d, take_next side x set es i h, e);
  small = λ c. let a = s.small c in omega arith;
  ascends = s.ascends;
  bound = s.bound;
}

pub summed_more : (side : EdgeSide) (set : List ℕ) (es : List NetEdge) (f r : Form) (next after i : ℕ) → IsSummed side set es f next i → i < length es → picks side set (get_or es i no_edge) ≡ true →
    ((x : ℕ → ℤ) (d : ℤ) → form_value x d r ≡ form_value x d f +ℤ side_sign side *ℤ x (get_or es i no_edge).unknown) → ((c : Column) → unsigned_abs (entry c r) ≤ suc (unsigned_abs (entry c f))) →
    (next ≤ (get_or es i no_edge).unknown → AscendsWithin 0 (suc (get_or es i no_edge).unknown) r.coefficients) →
    after ≤ 2 ^ 32 → (next ≤ (get_or es i no_edge).unknown → after ≡ suc (get_or es i no_edge).unknown) → ((get_or es i no_edge).unknown < next → after ≡ 2 ^ 32) → IsSummed side set es r after (i + 1)
summed_more side set es f r next after i s h p v m a b k j = record {
  value = λ x d.
      let e = ap (λ w. cond w (side_sign side *ℤ x (get_or es i no_edge).unknown) (pos 0)) p in
      omega (arith, ints, s.value x d, take_next side x set es i h, e, v x d);
  small = λ c. let y = s.small c in let z = m c in omega arith;
  ascends = ⊎_elim
      (λ low. subst (λ n. AscendsWithin 0 n r.coefficients) (sym (j low)) r.ascending)
      (λ high. subst (λ n. AscendsWithin 0 n r.coefficients) (sym (k high)) (a high))
      (cases_lt (get_or es i no_edge).unknown next);
  bound = b;
}

-- terms that name no unknown from n on
out_beyond : (n u : ℕ) (set : List ℕ) (z : ℤ) (es : List NetEdge) → All (λ e. e.unknown < n) es → n ≤ u → coefficient u (edges_out set es z) ≡ pos 0
out_beyond n u set z [] h l = refl
out_beyond n u set z (e ∷ es) h l = by (contains_number e.«from» set) (out_beyond n u set z es (All-tail (λ y. y.unknown < n) e es h) l)
  where
    by : (b : Bool) → coefficient u (edges_out set es z) ≡ pos 0 → coefficient u (cond b ((e.unknown, z) ∷ edges_out set es z) (edges_out set es z)) ≡ pos 0
    by true r =
        let low = All-head (λ y. y.unknown < n) e es h in
        let d : nat_eq e.unknown u ≡ false = grind (arith, nat_tests) in
        ap (λ w. cond w z (pos 0) +ℤ coefficient u (edges_out set es z)) d ∙ omega (arith, ints, r)
    by false r = r

in_beyond : (n u : ℕ) (set : List ℕ) (z : ℤ) (es : List NetEdge) → All (λ e. e.unknown < n) es → n ≤ u → coefficient u (edges_in set es z) ≡ pos 0
in_beyond n u set z [] h l = refl
in_beyond n u set z (e ∷ es) h l = by (contains_number e.to set && not (contains_number e.«from» set)) (in_beyond n u set z es (All-tail (λ y. y.unknown < n) e es h) l)
  where
    by : (b : Bool) → coefficient u (edges_in set es z) ≡ pos 0 → coefficient u (cond b ((e.unknown, z) ∷ edges_in set es z) (edges_in set es z)) ≡ pos 0
    by true r =
        let low = All-head (λ y. y.unknown < n) e es h in
        let d : nat_eq e.unknown u ≡ false = grind (arith, nat_tests) in
        ap (λ w. cond w z (pos 0) +ℤ coefficient u (edges_in set es z)) d ∙ omega (arith, ints, r)
    by false r = r

side_beyond : (side : EdgeSide) (n u : ℕ) (set : List ℕ) (es : List NetEdge) → All (λ e. e.unknown < n) es → n ≤ u → coefficient u (side_terms side set es) ≡ pos 0
side_beyond Out n u set es h l = out_beyond n u set (pos 1) es h l
side_beyond In n u set es h l = in_beyond n u set (neg_ℤ (pos 1)) es h l

-- a form that holds no unknown from n on names those below n alone
ascends_below : (n low high : ℕ) (ts : List (ℕ × ℤ)) → AscendsWithin low high ts → low ≤ n → ((u : ℕ) → n ≤ u → coefficient u ts ≡ pos 0) → AscendsWithin low n ts
ascends_below n low high [] a l h = l
ascends_below n low high (t ∷ ts) a l h =
    let here = term_here low high (t ∷ ts) 0 t a refl in
    let under : t.0 < n = ⊎_elim (λ y. y) (λ y. absurd (let z = ap unsigned_abs (sym here.is ∙ h t.0 y) in omega (arith, here.not_zero))) (cases_lt t.0 n) in (
      a.0,
      (
        a.1.0,
        ascends_below n (t.0 + 1) high ts a.1.1 (omega arith) (λ u y.
            let d : nat_eq t.0 u ≡ false = grind (arith, nat_tests) in
            let e = ap (λ w. cond w t.1 (pos 0) +ℤ coefficient u ts) d in
            omega (arith, ints, e, h u y)),
      ),
    )

pub summed_done : (side : EdgeSide) (n : ℕ) (net : Net) (set : List ℕ) (f : Form) (next i : ℕ) → IsNetWithin n net → IsSummed side set net.edges f next i → length net.edges ≤ i → i < 2 ^ 64 → IsSideSum side n net set f
summed_done side n net set f next i w s h k =
    let value : (x : ℕ → ℤ) (d : ℤ) → form_value x d f ≡ terms_value x (side_terms side set net.edges) = λ x d. s.value x d ∙ ap (λ l. terms_value x (side_terms side set l)) (take_all i net.edges h) in
    record {
      value = value;
      constant = constant_value f ∙ value nowhere (pos 1) ∙ value_nowhere (side_terms side set net.edges);
      small = λ c. let a = s.small c in omega arith;
      within = ascends_below n 0 (2 ^ 32) f.coefficients f.ascending (omega arith) (λ u l.
          coefficient_value u f ∙ value (unit u) (pos 0) ∙ sym (coefficient_is_value u (side_terms side set net.edges)) ∙ side_beyond side n u set net.edges w.unknowns l);
    }

-- a state of the set, one more
pub contains_more : (s : ℕ) (set : List ℕ) (m : ℕ) → contains_number s (set ++ m ∷ []) ≡ (contains_number s set || nat_eq m s)
contains_more s [] m = by (nat_eq m s)
  where
    by : (b : Bool) → (b || false) ≡ (false || b)
    by true = refl
    by false = refl
contains_more s (k ∷ ks) m = by (nat_eq k s) (contains_more s ks m)
  where
    by : (b : Bool) → contains_number s (ks ++ m ∷ []) ≡ (contains_number s ks || nat_eq m s) → (b || contains_number s (ks ++ m ∷ [])) ≡ ((b || contains_number s ks) || nat_eq m s)
    by true h = refl
    by false h = h

set_same : (xs : List Bool) (q : ℕ) (y : Bool) → q < length xs → slice_get (slice_set xs q y) q ≡ Some y
set_same [] q y p = absurd (omega arith)
set_same (x ∷ xs) zero y p = refl
set_same (x ∷ xs) (suc q) y p = set_same xs q y (omega arith)

set_other : (xs : List Bool) (q p : ℕ) (y : Bool) → p ≢ q → slice_get (slice_set xs q y) p ≡ slice_get xs p
set_other [] q p y n = refl
set_other (x ∷ xs) zero zero y n = absurd (n refl)
set_other (x ∷ xs) zero (suc p) y n = refl
set_other (x ∷ xs) (suc q) zero y n = refl
set_other (x ∷ xs) (suc q) (suc p) y n = set_other xs q p y (λ e. n (ap suc e))

pub length_set : (xs : List Bool) (q : ℕ) (y : Bool) → length (slice_set xs q y) ≡ length xs
length_set [] q y = refl
length_set (x ∷ xs) zero y = refl
length_set (x ∷ xs) (suc q) y = ap suc (length_set xs q y)

or_false : (b c : Bool) → c ≡ false → (b || c) ≡ b
or_false true c e = refl
or_false false c e = e

next_state : (states : ℕ) (set : List ℕ) (i : ℕ) → i < length set → (s : ℕ) → contains_number s (take (i + 1) set) ≡ (contains_number s (take i set) || nat_eq (get_or set i 0) s)
next_state states set i h s = ap (contains_number s) (take_more set i 0 h) ∙ contains_more s (take i set) (get_or set i 0)

pub marked_none : (states : ℕ) (marks : List Bool) → marks ≡ replicate states false → AreSetMarks states [] marks
marked_none states marks e s p = ap (λ l. slice_get l s) e ∙ none states s p
  where
    none : (n k : ℕ) → k < n → slice_get (replicate n false) k ≡ Some false
    none zero k h = absurd (omega arith)
    none (suc n) zero h = refl
    none (suc n) (suc k) h = none n k (omega arith)

pub marked_more : (states : ℕ) (set : List ℕ) (i : ℕ) (marks : List Bool) → i < length set → length marks ≡ states → AreSetMarks states (take i set) marks → get_or set i 0 < length marks → AreSetMarks states (take (i + 1) set) (slice_set marks (get_or set i 0) true)
marked_more states set i marks h l a w s p =
    ⊎_elim
    (λ e.
    let d : nat_eq (get_or set i 0) s ≡ true = e.0 in
    ap (slice_get (slice_set marks (get_or set i 0) true)) (sym e.1) ∙ set_same marks (get_or set i 0) true w
    ∙ ap Some (sym (next_state states set i h s ∙ or_right (contains_number s (take i set)) (nat_eq (get_or set i 0) s) d)))
    (λ n.
    let d : nat_eq (get_or set i 0) s ≡ false = n.0 in
    set_other marks (get_or set i 0) s true (λ e. n.1 (sym e)) ∙ a s p
    ∙ ap Some (sym (next_state states set i h s ∙ or_false (contains_number s (take i set)) (nat_eq (get_or set i 0) s) d)))
    (eqb_tells (get_or set i 0) s)

pub marked_beyond : (states : ℕ) (set : List ℕ) (i : ℕ) (marks : List Bool) → i < length set → length marks ≡ states → AreSetMarks states (take i set) marks → length marks ≤ get_or set i 0 → AreSetMarks states (take (i + 1) set) marks
marked_beyond states set i marks h l a w s p =
    let d : nat_eq (get_or set i 0) s ≡ false = grind (arith, nat_tests) in
    a s p ∙ ap Some (sym (next_state states set i h s ∙ or_false (contains_number s (take i set)) (nat_eq (get_or set i 0) s) d))
