-- The numbers of terms of sort Int under values: those of their linear forms.
use Rattle.std.proofs.Common.{◌≡◌, refl, sym, ap, ◌∙◌, map, Bool, true, false, ◌&&◌, ◌||◌, IsTrue, ℤ, pos, ◌+ℤ◌, ◌*ℤ◌, List, [], ◌∷◌, ◌++◌, length, Option, Some, None, nat_eq, arith}
use Rattle.std.proofs.lemmas.Int.{ints}
use Rattle.std.specs.List.{list_all}
use Rattle.std.specs.Map.{lookup}
use Rattle.std.specs.Option.{option_map}
use Rattle.std.specs.Cmp.Lexicographic.{pointwise}
use Rattle.std.proofs.lemmas.Bool.{and_parts}
use Rattle.sv_linear.specs.Integers.{mul_comm, add-mul, mul_assoc}
use Rattle.sv_terms.specs.declared.value.Value.{Value}
use Rattle.sv_terms.specs.declared.value.Value.TheVariants.{Truth, Number, Text}
use Rattle.sv_terms.specs.declared.op.Op.{Op}
use Rattle.sv_terms.specs.declared.op.Op.TheVariants as op
use Rattle.sv_terms.specs.declared.sort.Sort.{Sort}
use Rattle.sv_terms.specs.declared.sort.Sort.TheVariants as sort
use Rattle.sv_terms.specs.declared.term.Term.TheVariants as term
use Rattle.sv_terms.specs.declared.term.Term.TheOpen.{Term-F}
use Rattle.sv_terms.specs.Meaning.{Named, all_of, each_of, number_of, applied, applied_if, val, val_step, total_from, total, less_from, difference, product_from, product}
use Rattle.sv_terms.specs.Sorting.{same_sort, is_of, is_valued}
use Rattle.literal_forms.specs.Shapes.{Shape, Shapes, number, text, constant, apply, end, ◌⨾◌, raw, raws}
use Rattle.literal_forms.specs.Linear.{Unknown, integer, length_of, other, Linear, added, scaled, less, minus_one, is_constant, multiplied, from_left, difference_of, length_form, linear, linears, is_string, is_linear, are_linear, is_product_from, is_product, written}
use Rattle.sv_terms.specs.SortingLaws.{fold-at, val-apply, valued-apply}
use Rattle.straight_line.proofs.Texts.{word, word_written, val_word, valued_constant, val_constant}

-- the sum of the terms, and with the constant, at the unknowns' values
abbrev pub terms_sum : (Unknown → ℤ) → List (Unknown × ℤ) → ℤ
terms_sum x [] = pos 0
terms_sum x (t ∷ ts) = t.1 *ℤ x t.0 +ℤ terms_sum x ts

abbrev pub linear_value : (Unknown → ℤ) → Linear → ℤ
linear_value x a = terms_sum x a.terms +ℤ a.constant

module _ (x : Unknown → ℤ) where
  sum_joined : (ts us : List (Unknown × ℤ)) → terms_sum x (ts ++ us) ≡ terms_sum x ts +ℤ terms_sum x us
  sum_joined [] us = omega (arith, ints)
  sum_joined (t ∷ ts) us = let h = sum_joined ts us in omega (arith, ints)

  pub value_added : (a b : Linear) → linear_value x (added a b) ≡ linear_value x a +ℤ linear_value x b
  value_added a b = let h = sum_joined a.terms b.terms in omega (arith, ints)

  sum_scaled : (ts : List (Unknown × ℤ)) (k : ℤ) → terms_sum x (map (λ (t : Unknown × ℤ). (t.0, t.1 *ℤ k)) ts) ≡ terms_sum x ts *ℤ k
  sum_scaled [] k = omega (arith, ints)
  sum_scaled (t ∷ ts) k =
      let h = sum_scaled ts k in
      let e : (t.1 *ℤ k) *ℤ x t.0 ≡ (t.1 *ℤ x t.0) *ℤ k = mul_assoc t.1 k (x t.0) ∙ ap (λ z. t.1 *ℤ z) (mul_comm k (x t.0)) ∙ sym (mul_assoc t.1 (x t.0) k) in
      (λ i. e i +ℤ h i) ∙ sym (add-mul (t.1 *ℤ x t.0) (terms_sum x ts) k)

  pub value_scaled : (a : Linear) (k : ℤ) → linear_value x (scaled a k) ≡ linear_value x a *ℤ k
  value_scaled a k = ap (λ z. z +ℤ a.constant *ℤ k) (sum_scaled a.terms k) ∙ sym (add-mul (terms_sum x a.terms) a.constant k)

  pub value_less : (a b : Linear) → linear_value x (less a b) ≡ linear_value x a +ℤ linear_value x b *ℤ minus_one
  value_less a b = value_added a (scaled b minus_one) ∙ ap (λ z. linear_value x a +ℤ z) (value_scaled b minus_one)

  value_constant : (a : Linear) → is_constant a ≡ true → linear_value x a ≡ a.constant
  value_constant a e = by_terms a.terms a.constant e
    where
      by_terms : (ts : List (Unknown × ℤ)) (c : ℤ) → is_constant (record { terms = ts; constant = c }) ≡ true → terms_sum x ts +ℤ c ≡ c
      by_terms [] c e = omega (arith, ints)
      by_terms (t ∷ ts) c e = absurd (cc)

  value_multiplied : (a b : Linear) → (is_constant a || is_constant b) ≡ true → linear_value x (multiplied a b) ≡ linear_value x a *ℤ linear_value x b
  value_multiplied a b e = by_tests (is_constant a) (is_constant b) refl refl e
    where
      by_tests : (p q : Bool) → is_constant a ≡ p → is_constant b ≡ q → (p || q) ≡ true → linear_value x (multiplied a b) ≡ linear_value x a *ℤ linear_value x b
      by_tests p true f g h = rw g (value_scaled a b.constant ∙ ap (λ z. linear_value x a *ℤ z) (sym (value_constant b g)))
      by_tests true false f g h = rw g (value_scaled b a.constant ∙ ap (λ z. linear_value x b *ℤ z) (sym (value_constant a f)) ∙ mul_comm (linear_value x b) (linear_value x a))
      by_tests false false f g h = absurd (cc)

  abbrev values_of : List Linear → List ℤ
  values_of bs = map (linear_value x) bs

  sums : (a : Linear) (bs : List Linear) → linear_value x (from_left added a bs) ≡ total_from (linear_value x a) (values_of bs)
  sums a [] = refl
  sums a (b ∷ bs) = sums (added a b) bs ∙ ap (λ z. total_from z (values_of bs)) (value_added a b)

  lesses : (a : Linear) (bs : List Linear) → linear_value x (from_left less a bs) ≡ less_from (linear_value x a) (values_of bs)
  lesses a [] = refl
  lesses a (b ∷ bs) = lesses (less a b) bs ∙ ap (λ z. less_from z (values_of bs)) (value_less a b)

  products : (a : Linear) (bs : List Linear) → is_product_from a bs ≡ true → linear_value x (from_left multiplied a bs) ≡ product_from (linear_value x a) (values_of bs)
  products a [] e = refl
  products a (b ∷ bs) e =
      let h = and_parts (is_constant a || is_constant b) (is_product_from (multiplied a b) bs) e in
      products (multiplied a b) bs h.1 ∙ ap (λ z. product_from z (values_of bs)) (value_multiplied a b h.0)

module _ (values : Named) where
  abbrev number_or : Option Value → ℤ
  number_or (Some (Number n)) = n
  number_or _ = pos 0

  -- the value of an unknown
  abbrev pub amount : Unknown → ℤ
  amount (integer n) = number_or (lookup (pointwise nat_eq n) values)
  amount (length_of s) = pos (length (word values s))
  amount (other s) = pos 0

  abbrev pub number_of_term : Shape → ℤ
  number_of_term s = linear_value amount (linear s)

  pub number_is : (o : Option Value) (s : Sort) → same_sort s sort.Int ≡ true → IsTrue (is_of s o) → o ≡ Some (Number (number_or o))
  number_is None s e h = absurd (cc)
  number_is (Some (Number n)) s e h = refl
  number_is (Some (Truth b)) sort.Int e h = absurd (cc)
  number_is (Some (Truth b)) sort.Bool e h = absurd (cc)
  number_is (Some (Truth b)) sort.String e h = absurd (cc)
  number_is (Some (Truth b)) sort.RegLan e h = absurd (cc)
  number_is (Some (Text w)) sort.Int e h = absurd (cc)
  number_is (Some (Text w)) sort.Bool e h = absurd (cc)
  number_is (Some (Text w)) sort.String e h = absurd (cc)
  number_is (Some (Text w)) sort.RegLan e h = absurd (cc)

  each_number : (ns : List ℤ) → each_of number_of (map (λ n. Number n) ns) ≡ Some ns
  each_number [] = refl
  each_number (n ∷ ns) = ap (option_map (λ ms. n ∷ ms)) (each_number ns)

  one_times : (z : ℤ) → (pos 1 *ℤ z +ℤ pos 0) +ℤ pos 0 ≡ z
  one_times z = omega (arith, ints)

  zero_plus : (z : ℤ) → pos 0 +ℤ z ≡ z
  zero_plus z = omega (arith, ints)

  -- the length of a term
  val_length : (s : Shape) → is_string s ≡ true → IsTrue (is_valued values (raw s)) → Some (Number (pos (length (word values s)))) ≡ Some (Number (linear_value amount (length_form (s ⨾ end))))
  val_length (text w) e h = ap (λ z. Some (Number z)) (sym (zero_plus (pos (length w))))
  val_length (constant n s) e h = ap (λ z. Some (Number z)) (sym (one_times (pos (length (word values (constant n s))))))
  val_length (apply o ss) e h = ap (λ z. Some (Number z)) (ap (λ w. pos (length w)) (sym (word_written values (apply o ss))) ∙ sym (one_times (pos (length (word values (written (apply o ss)))))))
  val_length _ e h = absurd (cc)

  -- what a function of numbers gives of terms that have numbers
  of_numbers : (o : Op) (f : List ℤ → ℤ) → ((vs : List Value) → applied o vs ≡ option_map (λ ns. Number (f ns)) (each_of number_of vs)) → (ss : Shapes) → all_of (map (val values) (raws ss)) ≡ Some (map (λ n. Number n) (values_of amount (linears ss))) → val values (raw (apply o ss)) ≡ Some (Number (f (values_of amount (linears ss))))
  of_numbers o f means ss e = val-apply values o (raws ss) ∙ ap (applied_if o) e ∙ means (map (λ n. Number n) (values_of amount (linears ss))) ∙ ap (option_map (λ ns. Number (f ns))) (each_number (values_of amount (linears ss)))

  difference_is : (a : Linear) (bs : List Linear) → difference (values_of amount (a ∷ bs)) ≡ linear_value amount (difference_of (a ∷ bs))
  difference_is a [] = sym (value_scaled amount a minus_one)
  difference_is a (b ∷ bs) = sym (lesses amount a (b ∷ bs))

  -- a term of sort Int whose constants have values of their sorts has the number of its form
  mutual
    pub val_number : (s : Shape) → is_linear s ≡ true → IsTrue (is_valued values (raw s)) → val values (raw s) ≡ Some (Number (number_of_term s))
    val_number (number n) e h = fold-at (Option Value) (val_step values) _ (Term-F.Number n) (term.rolls-Number n) ∙ ap (λ z. Some (Number z)) (sym (zero_plus n))
    val_number (constant n s) e h = val_constant values n s ∙ number_is (lookup (pointwise nat_eq n) values) s e (sym (valued_constant values n s) ∙ h) ∙ ap (λ z. Some (Number z)) (sym (one_times (number_or (lookup (pointwise nat_eq n) values))))
    val_number (apply op.Length (s ⨾ end)) e h =
        let k = sym (valued-apply values op.Length (raws (s ⨾ end))) ∙ h in
        let b = and_parts (is_valued values (raw s)) true k in
        val-apply values op.Length (raws (s ⨾ end)) ∙ (λ i. applied_if op.Length (all_of (val_word values s e b.0 i ∷ []))) ∙ val_length s e b.0
    val_number (apply op.Add (s ⨾ ss)) e h =
        let k = sym (valued-apply values op.Add (raws (s ⨾ ss))) ∙ h in
        of_numbers op.Add total (λ vs. refl) (s ⨾ ss) (val_numbers (s ⨾ ss) e k) ∙ ap (λ z. Some (Number z)) (sym (sums amount (linear s) (linears ss)))
    val_number (apply op.Subtract (s ⨾ ss)) e h =
        let k = sym (valued-apply values op.Subtract (raws (s ⨾ ss))) ∙ h in
        of_numbers op.Subtract difference (λ vs. refl) (s ⨾ ss) (val_numbers (s ⨾ ss) e k) ∙ ap (λ z. Some (Number z)) (difference_is (linear s) (linears ss))
    val_number (apply op.Multiply (s ⨾ ss)) e h =
        let k = sym (valued-apply values op.Multiply (raws (s ⨾ ss))) ∙ h in
        let p = and_parts (is_linear s && are_linear ss) (is_product (linears (s ⨾ ss))) e in
        of_numbers op.Multiply product (λ vs. refl) (s ⨾ ss) (val_numbers (s ⨾ ss) p.0 k) ∙ ap (λ z. Some (Number z)) (sym (products amount (linear s) (linears ss) p.1))
    val_number _ e h = absurd (cc)

    val_numbers : (ss : Shapes) → are_linear ss ≡ true → IsTrue (list_all (λ c. c) (map (is_valued values) (raws ss))) → all_of (map (val values) (raws ss)) ≡ Some (map (λ n. Number n) (values_of amount (linears ss)))
    val_numbers end e h = refl
    val_numbers (s ⨾ ss) e h =
        let a = and_parts (is_linear s) (are_linear ss) e in
        let b = and_parts (is_valued values (raw s)) (list_all (λ c. c) (map (is_valued values) (raws ss))) h in
        ap (λ z. all_of (z ∷ map (val values) (raws ss))) (val_number s a.0 b.0) ∙ ap (option_map (λ vs. Number (number_of_term s) ∷ vs)) (val_numbers ss a.1 b.1)
