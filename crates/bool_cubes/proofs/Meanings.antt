-- A term that has a truth value is a formula of that value.
use Rattle.std.proofs.Common.{◌≡◌, refl, sym, ap, ◌∙◌, subst, map, Bool, true, false, not, ◌&&◌, IsTrue, ℤ, pos, List, [], ◌∷◌, ◌++◌, ◌⊎◌, inl, inr, Option, Some, None, nat_eq, cond}
use Rattle.std.specs.Prelude.{int_lt, int_le, if◌then◌else◌}
use Rattle.std.specs.Ordering.{int_eq, is_eq}
use Rattle.std.specs.declared.cmp.Ordering.TheVariants.{Less, Equal, Greater}
use Rattle.std.proofs.lemmas.List.Folds.{list_all-append, list_all-map}
use Rattle.std.specs.List.{list_all, list_any, AllZip}
use Rattle.std.specs.Option.{option_map}
use Rattle.std.specs.Cmp.Lexicographic.{pointwise}
use Rattle.std.proofs.lemmas.Bool.{and_parts, or_parts}
use Rattle.std.proofs.lemmas.Option.{same_Some, none-some}
use Rattle.sv_list.specs.Bools.{and-true}
use Rattle.sv_list.specs.Lists.{AllZip-append}
use Rattle.sv_terms.specs.declared.value.Value.{Value}
use Rattle.sv_terms.specs.declared.value.Value.TheVariants.{Truth, Number, Text}
use Rattle.sv_terms.specs.declared.op.Op.{Op}
use Rattle.sv_terms.specs.declared.op.Op.TheVariants as op
use Rattle.sv_terms.specs.declared.sort.Sort.{Sort}
use Rattle.sv_terms.specs.declared.sort.Sort.TheVariants as sort
use Rattle.sv_terms.specs.declared.term.Term.{Term}
use Rattle.sv_terms.specs.declared.term.Term.TheVariants as term
use Rattle.sv_terms.specs.declared.term.Term.TheOpen.{Term-F}
use Rattle.sv_terms.specs.Meaning.{Named, all_of, each_of, truth_of, number_of, same_truth, same_value, chained, pairwise, exclusive, implied, applied, applied_if, of_truths, of_numbers, val, val_step}
use Rattle.sv_terms.specs.SortingLaws.{fold-at, val-apply, valued-apply}
use Rattle.sv_terms.specs.Sorting.{kind, same_sort, applied_sort, applied_sort_if, tested_sort, related_sort, sort_step, sort_of, is_valued, op_sort}
use Rattle.sv_terms.specs.Parts.{opaque_step, is_opaque}
use Rattle.sv_terms.proofs.ValueSorts.{same_is, front}
use Rattle.literal_forms.specs.Shapes.{Shape, Shapes, truth, number, text, constant, apply, member, related as pair, opaque, end, ◌⨾◌, raw, raws}
use Rattle.literal_forms.specs.Shapes as shape
use Rattle.bool_cubes.specs.Trees.{Formula, Part, negated, conjunction, disjunction, choice, comparison, equal_numbers, equal, equal_at, chain, formulas, neighbours, pairs, formula, parts}
use Rattle.bool_cubes.specs.Trees as tree
use Rattle.bool_cubes.proofs.Deciding.{Decides, dec_truth, dec_not, dec_atom, dec_all, dec_any, dec_same, dec_choice, dec_exclusive, dec_implied}
use Rattle.bool_cubes.proofs.Ranked.{some_of_is, more_of_is, alike_is, result_sort}

-- of each neighbouring pair, and of each pair, what a test gives
abbrev near : {X : Type 0} → (X → X → Bool) → List X → List Bool
near R [] = []
near R (x ∷ []) = []
near R (x ∷ y ∷ xs) = R x y ∷ near R (y ∷ xs)

near_all : {X : Type 0} (R : X → X → Bool) (xs : List X) → list_all (λ b. b) (near R xs) ≡ chained R xs
near_all R [] = refl
near_all R (x ∷ []) = refl
near_all R (x ∷ y ∷ xs) = ap (λ b. R x y && b) (near_all R (y ∷ xs))

abbrev each_two : {X : Type 0} → (X → X → Bool) → List X → List Bool
each_two R [] = []
each_two R (x ∷ xs) = map (R x) xs ++ each_two R xs

each_two_all : {X : Type 0} (R : X → X → Bool) (xs : List X) → list_all (λ b. b) (each_two R xs) ≡ pairwise R xs
each_two_all R [] = refl
each_two_all R (x ∷ xs) = list_all-append (λ b. b) (map (R x) xs) (each_two R xs) ∙ ap (λ b. b && list_all (λ c. c) (each_two R xs)) (list_all-map (λ b. b) (R x) xs) ∙ ap (λ b. list_all (R x) xs && b) (each_two_all R xs)

module _ (values : Named) where
  -- the value of a function of two terms that have values
  val_two : (o : Op) (s t : Term) (v w : Value) → val values s ≡ Some v → val values t ≡ Some w → val values (term.Apply o (s ∷ t ∷ [])) ≡ applied o (v ∷ w ∷ [])
  val_two o s t v w e f = val-apply values o (s ∷ t ∷ []) ∙ (λ i. applied_if o (all_of (e i ∷ f i ∷ [])))

  -- a term with its value
  pub record IsMeantAt (p : Part) (v : Value) : Type 0 where
    pub value : val values p.raw ≡ Some v
    pub sorted : kind v ≡ p.of
    pub decided : (b : Bool) → v ≡ Truth b → Decides values p.formula b

  abbrev Meant : List Part → List Value → Type 0
  Meant ps vs = AllZip IsMeantAt ps vs

  abbrev Truths : List Part → List Value → Type 0
  Truths ps vs = (bs : List Bool) × (each_of truth_of vs ≡ Some bs) × AllZip (Decides values) (formulas ps) bs

  truths : (ps : List Part) (vs : List Value) → Meant ps vs → IsTrue (list_all (same_sort sort.Bool) (map kind vs)) → Truths ps vs
  truths [] [] m h = ([], refl, tt)
  truths [] (v ∷ vs) m h = absurd m
  truths (p ∷ ps) [] m h = absurd m
  truths (p ∷ ps) (Truth b ∷ vs) m h = let r = truths ps vs m.1 h in (b ∷ r.0, ap (option_map (λ bs. b ∷ bs)) r.1, (m.0.decided b refl, r.2))
  truths (p ∷ ps) (Number n ∷ vs) m h = absurd (cc)
  truths (p ∷ ps) (Text w ∷ vs) m h = absurd (cc)

  -- a function of truth values
  of_truths_meant : (F : List Formula → Formula) (f : List Bool → Bool) → ((fs : List Formula) (bs : List Bool) → AllZip (Decides values) fs bs → Decides values (F fs) (f bs))
      → (ps : List Part) (vs : List Value) (b : Bool) → Meant ps vs → IsTrue (list_all (same_sort sort.Bool) (map kind vs)) → of_truths f vs ≡ Some (Truth b) → Decides values (F (formulas ps)) b
  of_truths_meant F f d ps vs b m h e =
      let r = truths ps vs m h in
      let k : Some (Truth (f r.0)) ≡ Some (Truth b) = sym (ap (option_map (λ bs. Truth (f bs))) r.1) ∙ e in
      let g : f r.0 ≡ b = cc in
      subst (λ c. Decides values (F (formulas ps)) c) g (d (formulas ps) r.0 r.2)

  -- a relation of terms by a test of their values
  module _ (F : Part → Part → Formula) (R : Value → Value → Bool) (s : Sort) (two : (p q : Part) (v w : Value) → kind v ≡ s → kind w ≡ s → IsMeantAt p v → IsMeantAt q w → Decides values (F p q) (R v w)) where
    near_meant : (ps : List Part) (vs : List Value) → Meant ps vs → IsTrue (list_all (same_sort s) (map kind vs)) → AllZip (Decides values) (neighbours F ps) (near R vs)
    near_meant [] [] m h = tt
    near_meant [] (v ∷ vs) m h = absurd m
    near_meant (p ∷ ps) [] m h = absurd m
    near_meant (p ∷ []) (v ∷ []) m h = tt
    near_meant (p ∷ []) (v ∷ w ∷ vs) m h = absurd m.1
    near_meant (p ∷ q ∷ ps) (v ∷ []) m h = absurd m.1
    near_meant (p ∷ q ∷ ps) (v ∷ w ∷ vs) m h =
        let a = and_parts (same_sort s (kind v)) (list_all (same_sort s) (map kind (w ∷ vs))) h in
        let b = and_parts (same_sort s (kind w)) (list_all (same_sort s) (map kind vs)) a.1 in
        (two p q v w (same_is s (kind v) a.0) (same_is s (kind w) b.0) m.0 m.1.0, near_meant (q ∷ ps) (w ∷ vs) m.1 a.1)

    first_meant : (p : Part) (v : Value) (ps : List Part) (vs : List Value) → kind v ≡ s → IsMeantAt p v → Meant ps vs → IsTrue (list_all (same_sort s) (map kind vs)) → AllZip (Decides values) (map (F p) ps) (map (R v) vs)
    first_meant p v [] [] k d m h = tt
    first_meant p v [] (w ∷ vs) k d m h = absurd m
    first_meant p v (q ∷ ps) [] k d m h = absurd m
    first_meant p v (q ∷ ps) (w ∷ vs) k d m h =
        let b = and_parts (same_sort s (kind w)) (list_all (same_sort s) (map kind vs)) h in
        (two p q v w k (same_is s (kind w) b.0) d m.0, first_meant p v ps vs k d m.1 b.1)

    pairs_meant : (ps : List Part) (vs : List Value) → Meant ps vs → IsTrue (list_all (same_sort s) (map kind vs)) → AllZip (Decides values) (pairs F ps) (each_two R vs)
    pairs_meant [] [] m h = tt
    pairs_meant [] (v ∷ vs) m h = absurd m
    pairs_meant (p ∷ ps) [] m h = absurd m
    pairs_meant (p ∷ ps) (v ∷ vs) m h =
        let a = and_parts (same_sort s (kind v)) (list_all (same_sort s) (map kind vs)) h in
        AllZip-append (Decides values) (map (F p) ps) (pairs F ps) (map (R v) vs) (each_two R vs) (first_meant p v ps vs (same_is s (kind v) a.0) m.0 m.1 a.1) (pairs_meant ps vs m.1 a.1)

    near_all_meant : (ps : List Part) (vs : List Value) → Meant ps vs → IsTrue (list_all (same_sort s) (map kind vs)) → Decides values (conjunction (neighbours F ps)) (chained R vs)
    near_all_meant ps vs m h = subst (λ b. Decides values (conjunction (neighbours F ps)) b) (near_all R vs) (dec_all values (neighbours F ps) (near R vs) (near_meant ps vs m h))

    pairs_all_meant : (ps : List Part) (vs : List Value) → Meant ps vs → IsTrue (list_all (same_sort s) (map kind vs)) → Decides values (conjunction (pairs F ps)) (pairwise R vs)
    pairs_all_meant ps vs m h = subst (λ b. Decides values (conjunction (pairs F ps)) b) (each_two_all R vs) (dec_all values (pairs F ps) (each_two R vs) (pairs_meant ps vs m h))

  -- orders of numbers
  abbrev int_of : Value → ℤ
  int_of (Truth b) = pos 0
  int_of (Number n) = n
  int_of (Text w) = pos 0

  ints_of : (vs : List Value) → IsTrue (list_all (same_sort sort.Int) (map kind vs)) → each_of number_of vs ≡ Some (map int_of vs)
  ints_of [] h = refl
  ints_of (Truth b ∷ vs) h = absurd (cc)
  ints_of (Number n ∷ vs) h = ap (option_map (λ ns. n ∷ ns)) (ints_of vs h)
  ints_of (Text w ∷ vs) h = absurd (cc)

  chained_map : (R : ℤ → ℤ → Bool) (vs : List Value) → chained (λ v w. R (int_of v) (int_of w)) vs ≡ chained R (map int_of vs)
  chained_map R [] = refl
  chained_map R (v ∷ []) = refl
  chained_map R (v ∷ w ∷ vs) = ap (λ b. R (int_of v) (int_of w) && b) (chained_map R (w ∷ vs))

  module _ (o : Op) (R : ℤ → ℤ → Bool) (means : (m n : ℤ) → applied o (Number m ∷ Number n ∷ []) ≡ Some (Truth (R m n && true))) where
    two_ordered : (p q : Part) (v w : Value) → kind v ≡ sort.Int → kind w ≡ sort.Int → IsMeantAt p v → IsMeantAt q w → Decides values (comparison o p.raw q.raw) (R (int_of v) (int_of w))
    two_ordered p q (Number m) (Number n) k l d e =
        dec_atom values (term.Apply o (p.raw ∷ q.raw ∷ [])) (R m n) (val_two o p.raw q.raw (Number m) (Number n) d.value e.value ∙ means m n ∙ ap (λ b. Some (Truth b)) (and-true (R m n)))
    two_ordered p q (Truth b) w k l d e = absurd (cc)
    two_ordered p q (Text u) w k l d e = absurd (cc)
    two_ordered p q (Number m) (Truth b) k l d e = absurd (cc)
    two_ordered p q (Number m) (Text u) k l d e = absurd (cc)

    ordered_meant : (ps : List Part) (vs : List Value) (b : Bool) → Meant ps vs → IsTrue (list_all (same_sort sort.Int) (map kind vs)) → of_numbers (λ ns. Truth (chained R ns)) vs ≡ Some (Truth b) → Decides values (chain o ps) b
    ordered_meant ps vs b m h e =
        let k : Some (Truth (chained R (map int_of vs))) ≡ Some (Truth b) = sym (ap (option_map (λ ns. Truth (chained R ns))) (ints_of vs h)) ∙ e in
        let f : chained R (map int_of vs) ≡ b = cc in
        subst (λ c. Decides values (chain o ps) c) (chained_map R vs ∙ f)
        (near_all_meant (λ p q. comparison o p.raw q.raw) (λ v w. R (int_of v) (int_of w)) sort.Int two_ordered ps vs m h)

  -- equalities
  unequal : (a b : Bool) → is_eq (cond a Less (cond b Greater Equal)) ≡ false → (a ≡ true) ⊎ (b ≡ true)
  unequal true b e = inl refl
  unequal false true e = inr refl
  unequal false false e = absurd (cc)

  level : (a b : Bool) → is_eq (cond a Less (cond b Greater Equal)) ≡ true → (a ≡ false) × (b ≡ false)
  level true b e = absurd (cc)
  level false true e = absurd (cc)
  level false false e = (refl, refl)

  is_value : (o : Option Value) (a b : Bool) → o ≡ Some (Truth (a && true)) → o ≡ Some (Truth b) → a ≡ b
  is_value o a b e f = let g : Some (Truth (a && true)) ≡ Some (Truth b) = sym e ∙ f in let h : (a && true) ≡ b = cc in sym (and-true a) ∙ h

  numbers_equal : (s t : Term) (m n : ℤ) (b : Bool) → int_eq m n ≡ b → val values s ≡ Some (Number m) → val values t ≡ Some (Number n) → Decides values (equal_numbers s t) b
  numbers_equal s t m n true q e f =
      let l = level (int_lt m n) (int_lt n m) q in
      record {
        holds = val_two op.Equal s t (Number m) (Number n) e f ∙ ap (λ b. Some (Truth (b && true))) q;
        fails = λ h. elim h [
          | inl x ↦ let g : int_lt m n ≡ true = is_value (val values (term.Apply op.Less (s ∷ t ∷ []))) (int_lt m n) true (val_two op.Less s t (Number m) (Number n) e f) x in let k = l.0 in cc
          | inr y ↦ let g : int_lt n m ≡ true = is_value (val values (term.Apply op.Greater (s ∷ t ∷ []))) (int_lt n m) true (val_two op.Greater s t (Number m) (Number n) e f) y in let k = l.1 in cc
        ];
      }
  numbers_equal s t m n false q e f = record {
    holds = elim (unequal (int_lt m n) (int_lt n m) q) [
      | inl x ↦ inl (val_two op.Less s t (Number m) (Number n) e f ∙ ap (λ b. Some (Truth (b && true))) x)
      | inr y ↦ inr (val_two op.Greater s t (Number m) (Number n) e f ∙ ap (λ b. Some (Truth (b && true))) y)
    ];
    fails = λ h. let g : int_eq m n ≡ true = is_value (val values (term.Apply op.Equal (s ∷ t ∷ []))) (int_eq m n) true (val_two op.Equal s t (Number m) (Number n) e f) h in cc;
  }

  two_equal : (k : Sort) (p q : Part) (v w : Value) → kind v ≡ k → kind w ≡ k → IsMeantAt p v → IsMeantAt q w → Decides values (equal p q) (same_value v w)
  two_equal k p q (Truth a) (Truth b) i j d e = subst (λ s. Decides values (equal_at s p q) (same_truth a b)) d.sorted (dec_same values p.formula q.formula a b (d.decided a refl) (e.decided b refl))
  two_equal k p q (Number m) (Number n) i j d e = subst (λ s. Decides values (equal_at s p q) (int_eq m n)) d.sorted (numbers_equal p.raw q.raw m n (int_eq m n) refl d.value e.value)
  two_equal k p q (Text u) (Text w) i j d e =
      subst (λ s. Decides values (equal_at s p q) (pointwise nat_eq u w)) d.sorted
      (dec_atom values (term.Apply op.Equal (p.raw ∷ q.raw ∷ [])) (pointwise nat_eq u w) (val_two op.Equal p.raw q.raw (Text u) (Text w) d.value e.value ∙ ap (λ b. Some (Truth b)) (and-true (pointwise nat_eq u w))))
  two_equal k p q (Truth a) (Number n) i j d e = absurd (let x : sort.Bool ≡ sort.Int = i ∙ sym j in cc)
  two_equal k p q (Truth a) (Text w) i j d e = absurd (let x : sort.Bool ≡ sort.String = i ∙ sym j in cc)
  two_equal k p q (Number m) (Truth b) i j d e = absurd (let x : sort.Int ≡ sort.Bool = i ∙ sym j in cc)
  two_equal k p q (Number m) (Text w) i j d e = absurd (let x : sort.Int ≡ sort.String = i ∙ sym j in cc)
  two_equal k p q (Text u) (Truth b) i j d e = absurd (let x : sort.String ≡ sort.Bool = i ∙ sym j in cc)
  two_equal k p q (Text u) (Number n) i j d e = absurd (let x : sort.String ≡ sort.Int = i ∙ sym j in cc)

  two_different : (k : Sort) (p q : Part) (v w : Value) → kind v ≡ k → kind w ≡ k → IsMeantAt p v → IsMeantAt q w → Decides values (negated (equal p q)) (not (same_value v w))
  two_different k p q v w i j d e = dec_not values (equal p q) (same_value v w) (two_equal k p q v w i j d e)

  alike_all : (vs : List Value) (s : Sort) → applied_sort op.Equal (map kind vs) ≡ Some s → (k : Sort) × IsTrue (list_all (same_sort k) (map kind vs))
  alike_all [] s e = absurd (cc)
  alike_all (v ∷ vs) s e = (kind v, (alike_is s (kind v) (map kind vs) e).0)

  -- a function at arguments that have values
  not_meant : (ps : List Part) (vs : List Value) (t : Term) (b : Bool) → Meant ps vs → applied op.Not vs ≡ Some (Truth b) → val values t ≡ Some (Truth b) → Decides values (tree.applied op.Not ps t) b
  not_meant [] [] t b m e f = absurd (cc)
  not_meant [] (v ∷ vs) t b m e f = absurd m
  not_meant (p ∷ ps) [] t b m e f = absurd m
  not_meant (p ∷ []) (Truth a ∷ []) t b m e f = let g : not a ≡ b = cc in subst (λ c. Decides values (negated p.formula) c) g (dec_not values p.formula a (m.0.decided a refl))
  not_meant (p ∷ []) (Number n ∷ []) t b m e f = absurd (cc)
  not_meant (p ∷ []) (Text w ∷ []) t b m e f = absurd (cc)
  not_meant (p ∷ []) (v ∷ w ∷ vs) t b m e f = absurd m.1
  not_meant (p ∷ q ∷ ps) (v ∷ []) t b m e f = absurd m.1
  not_meant (p ∷ q ∷ ps) (v ∷ w ∷ vs) t b m e f = dec_atom values t b f

  choice_meant : (ps : List Part) (vs : List Value) (t : Term) (b : Bool) → Meant ps vs → applied op.IfThenElse vs ≡ Some (Truth b) → val values t ≡ Some (Truth b) → Decides values (tree.applied op.IfThenElse ps t) b
  choice_meant [] vs t b m e f = dec_atom values t b f
  choice_meant (p ∷ []) vs t b m e f = dec_atom values t b f
  choice_meant (p ∷ q ∷ []) vs t b m e f = dec_atom values t b f
  choice_meant (p ∷ q ∷ r ∷ x ∷ ps) vs t b m e f = dec_atom values t b f
  choice_meant (p ∷ q ∷ r ∷ []) vs t b m e f = choice_three p q r vs b m e
    where
      choice_three : (p q r : Part) (vs : List Value) (b : Bool) → Meant (p ∷ q ∷ r ∷ []) vs → applied op.IfThenElse vs ≡ Some (Truth b) → Decides values (choice p.formula q.formula r.formula) b
      choice_three p q r [] b m e = absurd m
      choice_three p q r (u ∷ []) b m e = absurd m.1
      choice_three p q r (u ∷ v ∷ []) b m e = absurd m.1.1
      choice_three p q r (u ∷ v ∷ w ∷ x ∷ vs) b m e = absurd m.1.1.1
      choice_three p q r (Number u ∷ v ∷ w ∷ []) b m e = absurd (cc)
      choice_three p q r (Text u ∷ v ∷ w ∷ []) b m e = absurd (cc)
      choice_three p q r (Truth u ∷ Number v ∷ w ∷ []) b m e = absurd (cc)
      choice_three p q r (Truth u ∷ Text v ∷ w ∷ []) b m e = absurd (cc)
      choice_three p q r (Truth u ∷ Truth v ∷ Number w ∷ []) b m e = absurd (cc)
      choice_three p q r (Truth u ∷ Truth v ∷ Text w ∷ []) b m e = absurd (cc)
      choice_three p q r (Truth u ∷ Truth v ∷ Truth w ∷ []) b m e =
          let g : (if u then v else w) ≡ b = cc in
          subst (λ c. Decides values (choice p.formula q.formula r.formula) c) g (dec_choice values p.formula q.formula r.formula u v w (m.0.decided u refl) (m.1.0.decided v refl) (m.1.1.0.decided w refl))

  applied_meant : (o : Op) (ps : List Part) (vs : List Value) (s : Sort) (t : Term) (b : Bool) → Meant ps vs → applied_sort o (map kind vs) ≡ Some s → applied o vs ≡ Some (Truth b) → val values t ≡ Some (Truth b) → Decides values (tree.applied o ps t) b
  applied_meant op.Not ps vs s t b m k e f = not_meant ps vs t b m e f
  applied_meant op.And ps vs s t b m k e f = of_truths_meant conjunction (list_all (λ b. b)) (dec_all values) ps vs b m (some_of_is sort.Bool sort.Bool s (map kind vs) k).0 e
  applied_meant op.Or ps vs s t b m k e f = of_truths_meant disjunction (list_any (λ b. b)) (dec_any values) ps vs b m (some_of_is sort.Bool sort.Bool s (map kind vs) k).0 e
  applied_meant op.Xor ps vs s t b m k e f = of_truths_meant tree.exclusive exclusive (dec_exclusive values) ps vs b m (more_of_is sort.Bool sort.Bool s (map kind vs) k).0 e
  applied_meant op.Implies ps vs s t b m k e f = of_truths_meant tree.implied implied (dec_implied values) ps vs b m (more_of_is sort.Bool sort.Bool s (map kind vs) k).0 e
  applied_meant op.Equal ps vs s t b m k e f =
      let a = alike_all vs s k in
      let g : chained same_value vs ≡ b = cc in
      subst (λ c. Decides values (conjunction (neighbours equal ps)) c) g (near_all_meant equal same_value a.0 (two_equal a.0) ps vs m a.1)
  applied_meant op.Distinct ps vs s t b m k e f =
      let a = alike_all vs s k in
      let g : pairwise (λ a b. not (same_value a b)) vs ≡ b = cc in
      subst (λ c. Decides values (conjunction (pairs (λ p q. negated (equal p q)) ps)) c) g (pairs_all_meant (λ p q. negated (equal p q)) (λ a b. not (same_value a b)) a.0 (two_different a.0) ps vs m a.1)
  applied_meant op.IfThenElse ps vs s t b m k e f = choice_meant ps vs t b m e f
  applied_meant op.LessEqual ps vs s t b m k e f = ordered_meant op.LessEqual int_le (λ x y. refl) ps vs b m (more_of_is sort.Int sort.Bool s (map kind vs) k).0 e
  applied_meant op.Less ps vs s t b m k e f = ordered_meant op.Less int_lt (λ x y. refl) ps vs b m (more_of_is sort.Int sort.Bool s (map kind vs) k).0 e
  applied_meant op.GreaterEqual ps vs s t b m k e f = ordered_meant op.GreaterEqual (λ x y. int_le y x) (λ x y. refl) ps vs b m (more_of_is sort.Int sort.Bool s (map kind vs) k).0 e
  applied_meant op.Greater ps vs s t b m k e f = ordered_meant op.Greater (λ x y. int_lt y x) (λ x y. refl) ps vs b m (more_of_is sort.Int sort.Bool s (map kind vs) k).0 e
  applied_meant op.Add ps vs s t b m k e f = dec_atom values t b f
  applied_meant op.Subtract ps vs s t b m k e f = dec_atom values t b f
  applied_meant op.Multiply ps vs s t b m k e f = dec_atom values t b f
  applied_meant op.Length ps vs s t b m k e f = dec_atom values t b f
  applied_meant op.Concat ps vs s t b m k e f = dec_atom values t b f
  applied_meant op.Replace ps vs s t b m k e f = dec_atom values t b f
  applied_meant op.ReplaceAll ps vs s t b m k e f = dec_atom values t b f
  applied_meant op.PrefixOf ps vs s t b m k e f = dec_atom values t b f
  applied_meant op.SuffixOf ps vs s t b m k e f = dec_atom values t b f
  applied_meant op.Contains ps vs s t b m k e f = dec_atom values t b f
  applied_meant op.IsDigit ps vs s t b m k e f = dec_atom values t b f

  -- a sorted term, whose constants have values, without opaque parts
  pub record IsGood (t : Term) (s : Sort) : Type 0 where
    pub sorted : sort_of t ≡ Some s
    pub valued : IsTrue (is_valued values t)
    pub clear : is_opaque t ≡ false

  sort_apply : (o : Op) (ts : List Term) → sort_of (term.Apply o ts) ≡ applied_sort_if o (all_of (map sort_of ts))
  sort_apply o ts = fold-at (Option Sort) sort_step _ (Term-F.Apply o ts) (term.rolls-Apply o ts)

  opaque_apply : (o : Op) (ts : List Term) → is_opaque (term.Apply o ts) ≡ list_any (λ b. b) (map is_opaque ts)
  opaque_apply o ts = fold-at Bool opaque_step _ (Term-F.Apply o ts) (term.rolls-Apply o ts)

  sort_leaf : (s : Shape) (k : Sort) → IsGood (raw s) k → k ≡ shape.head_sort s
  sort_leaf (truth b) k g = let e = sym (fold-at (Option Sort) sort_step _ (Term-F.Truth b) (term.rolls-Truth b)) ∙ g.sorted in sym (same_Some sort.Bool k e)
  sort_leaf (number n) k g = let e = sym (fold-at (Option Sort) sort_step _ (Term-F.Number n) (term.rolls-Number n)) ∙ g.sorted in sym (same_Some sort.Int k e)
  sort_leaf (text w) k g = let e = sym (fold-at (Option Sort) sort_step _ (Term-F.Text w) (term.rolls-Text w)) ∙ g.sorted in sym (same_Some sort.String k e)
  sort_leaf (constant name s) k g = let e = sym (fold-at (Option Sort) sort_step _ (Term-F.Constant name s) (term.rolls-Constant name s)) ∙ g.sorted in sym (same_Some s k e)
  sort_leaf (apply o ss) k g = applied_result o (all_of (map sort_of (raws ss))) k (sym (sort_apply o (raws ss)) ∙ g.sorted)
    where
      applied_result : (o : Op) (ks : Option (List Sort)) (k : Sort) → applied_sort_if o ks ≡ Some k → k ≡ op_sort o
      applied_result o None k e = absurd (none-some k e)
      applied_result o (Some ks) k e = result_sort o ks k e
  sort_leaf (member s r) k g = tested_result (sort_of (raw s)) k (sym (fold-at (Option Sort) sort_step _ (Term-F.InRe (raw s) r) (term.rolls-InRe (raw s) r)) ∙ g.sorted)
    where
      tested_result : (o : Option Sort) (k : Sort) → tested_sort o ≡ Some k → k ≡ sort.Bool
      tested_result None k e = absurd (none-some k e)
      tested_result (Some sort.Bool) k e = absurd (none-some k e)
      tested_result (Some sort.Int) k e = absurd (none-some k e)
      tested_result (Some sort.String) k e = sym (same_Some sort.Bool k e)
      tested_result (Some sort.RegLan) k e = absurd (none-some k e)
  sort_leaf (pair t s u) k g = related_result (sort_of (raw s)) (sort_of (raw u)) k (sym (fold-at (Option Sort) sort_step _ (Term-F.Related t (raw s) (raw u)) (term.rolls-Related t (raw s) (raw u))) ∙ g.sorted)
    where
      related_result : (o p : Option Sort) (k : Sort) → related_sort o p ≡ Some k → k ≡ sort.Bool
      related_result None p k e = absurd (none-some k e)
      related_result (Some sort.Bool) p k e = absurd (none-some k e)
      related_result (Some sort.Int) p k e = absurd (none-some k e)
      related_result (Some sort.RegLan) p k e = absurd (none-some k e)
      related_result (Some sort.String) None k e = absurd (none-some k e)
      related_result (Some sort.String) (Some sort.Bool) k e = absurd (none-some k e)
      related_result (Some sort.String) (Some sort.Int) k e = absurd (none-some k e)
      related_result (Some sort.String) (Some sort.RegLan) k e = absurd (none-some k e)
      related_result (Some sort.String) (Some sort.String) k e = sym (same_Some sort.Bool k e)
  sort_leaf (opaque s) k g = let e = sym (fold-at (Option Sort) sort_step _ (Term-F.Opaque s) (term.rolls-Opaque s)) ∙ g.sorted in sym (same_Some s k e)

  -- every good term has a value of its sort
  abbrev pub Valued : Type 0
  Valued = (t : Term) (s : Sort) → sort_of t ≡ Some s → IsTrue (is_valued values t) → is_opaque t ≡ false → (v : Value) × (val values t ≡ Some v) × (kind v ≡ s)

  -- what the arguments of a function give
  abbrev Arguments : Shapes → Type 0
  Arguments ss = (ks : List Sort) → all_of (map sort_of (raws ss)) ≡ Some ks → IsTrue (list_all (λ b. b) (map (is_valued values) (raws ss))) → list_any (λ b. b) (map is_opaque (raws ss)) ≡ false
      → (vs : List Value) × (all_of (map (val values) (raws ss)) ≡ Some vs) × (map kind vs ≡ ks) × Meant (parts ss) vs

  apply_decided : (o : Op) (ss : Shapes) (k : Sort) → Arguments ss → (ks : Option (List Sort)) → all_of (map sort_of (raws ss)) ≡ ks → applied_sort_if o ks ≡ Some k → IsTrue (list_all (λ b. b) (map (is_valued values) (raws ss))) → list_any (λ b. b) (map is_opaque (raws ss)) ≡ false → (b : Bool) → val values (raw (apply o ss)) ≡ Some (Truth b) → Decides values (formula (apply o ss)) b
  apply_decided o ss k each None q a h n b e = absurd (none-some k a)
  apply_decided o ss k each (Some ks) q a h n b e =
      let r = each ks q h n in
      let f : applied o r.0 ≡ Some (Truth b) = sym (val-apply values o (raws ss) ∙ ap (applied_if o) r.1) ∙ e in
      applied_meant o (parts ss) r.0 k (raw (apply o ss)) b r.3 (ap (applied_sort o) r.2 ∙ a) f e

  module _ (law : Valued) where
    mutual
      pub decided : (s : Shape) (k : Sort) → IsGood (raw s) k → (b : Bool) → val values (raw s) ≡ Some (Truth b) → Decides values (formula s) b
      decided (truth c) k g b e =
          let q : Some (Truth c) ≡ Some (Truth b) = sym (fold-at (Option Value) (val_step values) _ (Term-F.Truth c) (term.rolls-Truth c)) ∙ e in
          let f : c ≡ b = cc in
          subst (λ d. Decides values (tree.fixed c) d) f (dec_truth values c)
      decided (number n) k g b e = dec_atom values (raw (number n)) b e
      decided (text w) k g b e = dec_atom values (raw (text w)) b e
      decided (constant name s) k g b e = dec_atom values (raw (constant name s)) b e
      decided (member s r) k g b e = dec_atom values (raw (member s r)) b e
      decided (pair t s u) k g b e = dec_atom values (raw (pair t s u)) b e
      decided (opaque s) k g b e = dec_atom values (raw (opaque s)) b e
      decided (apply o ss) k g b e =
          apply_decided o ss k (λ ks q h n. each_meant ss ks q h n) (all_of (map sort_of (raws ss))) refl (sym (sort_apply o (raws ss)) ∙ g.sorted)
          (sym (valued-apply values o (raws ss)) ∙ g.valued) (sym (opaque_apply o (raws ss)) ∙ g.clear) b e

      each_meant : (ss : Shapes) (ks : List Sort) → all_of (map sort_of (raws ss)) ≡ Some ks → IsTrue (list_all (λ b. b) (map (is_valued values) (raws ss))) → list_any (λ b. b) (map is_opaque (raws ss)) ≡ false
          → (vs : List Value) × (all_of (map (val values) (raws ss)) ≡ Some vs) × (map kind vs ≡ ks) × Meant (parts ss) vs
      each_meant end ks q h n = ([], refl, cc, tt)
      each_meant (s ⨾ ss) ks q h n =
          let f = front (sort_of (raw s)) (map sort_of (raws ss)) _ ks refl q in
          let b = and_parts (is_valued values (raw s)) (list_all (λ b. b) (map (is_valued values) (raws ss))) h in
          let o = or_parts (is_opaque (raw s)) (list_any (λ b. b) (map is_opaque (raws ss))) n in
          let g : IsGood (raw s) f.0 = record { sorted = f.2; valued = b.0; clear = o.0 } in
          let v = law (raw s) f.0 f.2 b.0 o.0 in
          let r = each_meant ss f.1 f.3 b.1 o.1 in (
            v.0 ∷ r.0,
            ap (λ z. all_of (z ∷ map (val values) (raws ss))) v.1 ∙ ap (option_map (λ z. v.0 ∷ z)) r.1,
            ap (λ z. z ∷ map kind r.0) v.2 ∙ ap (λ z. f.0 ∷ z) r.2 ∙ f.4,
            (record { value = v.1; sorted = v.2 ∙ sort_leaf s f.0 g; decided = λ b e. decided s f.0 g b (v.1 ∙ ap Some e) }, r.3),
          )
