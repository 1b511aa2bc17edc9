-- What holds while definitions are put in order stays so when one is filed, and when one is taken.
use Rattle.std.proofs.Common.{◌≡◌, refl, sym, ap, ◌∙◌, subst, ℕ, zero, suc, ◌<◌, ◌≤◌, ◌⊎◌, inl, inr, Bool, true, false, ◌||◌, ◌&&◌, not, append_assoc, length-append, List, [], ◌∷◌, ◌++◌, length, get_or, Option, Some, None, cond, arith, get_or-set_other, get_or-set_same, append-nil}
use borrow.Author.Tests.{ltb-true}
use Rattle.std.specs.declared.cmp.Ordering.TheVariants.{Less, Equal, Greater}
use Rattle.std.specs.Prelude.{nat_eq, nat_lt, slice_get, slice_set}
use Rattle.std.specs.List.{list_all, list_any}
use Rattle.std.specs.Ordering.{is_eq, nat_cmp}
use Rattle.std.proofs.lemmas.List.{get_or_default}
use Rattle.std.proofs.lemmas.Bool.{cases_eq, cases_lt, eq-eqb, eqb-true}
use Rattle.sv_list.specs.Lists.{some-once}
use Rattle.flat_cubes.specs.Using.{is_defined, used}
use Rattle.flat_cubes.specs.Flattening.{is_free, take_free, taken}
use Rattle.flat_cubes.specs.Members.{Among}
use Rattle.straight_line.specs.Waiting.{AreDistinct, Awaits, Has, HaveOnce, IsAhead, NoneAheadBefore, IsSorted, IsSorting, IsWaited, picked, with_one}
use Rattle.flat_cubes.specs.declared.definition.Definition.{Definition}
use Rattle.straight_line.specs.declared.ordering.Waiter.{Waiter}
use Rattle.straight_line.proofs.Picks.{FreeIs, Parted, first_free, none_free, parted, picked_push, taken_none, taken_some}

pub among_push : {X : Type 0} (x y : X) (xs : List X) → Among x (xs ++ y ∷ []) → Among x xs ⊎ (y ≡ x)
among_push x y [] a = elim a [ inl e ↦ inr e | inr b ↦ absurd b ]
among_push x y (z ∷ xs) (inl e) = inl (inl e)
among_push x y (z ∷ xs) (inr a) = elim (among_push x y xs a) [ inl b ↦ inl (inr b) | inr e ↦ inr e ]

pub among_left : {X : Type 0} (x y : X) (xs : List X) → Among x xs → Among x (xs ++ y ∷ [])
among_left x y [] a = absurd a
among_left x y (z ∷ xs) (inl e) = inl e
among_left x y (z ∷ xs) (inr a) = inr (among_left x y xs a)

pub among_last : {X : Type 0} (x : X) (xs : List X) → Among x (xs ++ x ∷ [])
among_last x [] = inl refl
among_last x (z ∷ xs) = inr (among_last x xs)

-- a read of a changed list: the new value, or what stood there
pub at_set : {X : Type 0} (xs : List X) (i j : ℕ) (y d : X) → i < length xs → ((j ≡ i) × (get_or (slice_set xs i y) j d ≡ y)) ⊎ ((j ≡ i → ⊥) × (get_or (slice_set xs i y) j d ≡ get_or xs j d))
at_set xs i j y d l = elim (cases_eq j i) [
  | inl e ↦ inl (e, subst (λ k. get_or (slice_set xs i y) k d ≡ y) (sym e) (get_or-set_same xs i y d l))
  | inr n ↦ inr (n, get_or-set_other xs i j y d n)
]

pub same_cmp : (a b : ℕ) → is_eq (nat_cmp a b) ≡ true → a ≡ b
same_cmp a b h = by_test (nat_lt a b) (nat_eq a b) refl h
  where
    by_test : (p q : Bool) → nat_eq a b ≡ q → is_eq (cond p Less (cond q Equal Greater)) ≡ true → a ≡ b
    by_test true q e h = absurd (cc)
    by_test false true e h = eqb-true a b e
    by_test false false e h = absurd (cc)

pub own_cmp : (a : ℕ) → is_eq (nat_cmp a a) ≡ true
own_cmp a = by_test (nat_lt a a) refl
  where
    by_test : (p : Bool) → nat_lt a a ≡ p → is_eq (cond p Less (cond (nat_eq a a) Equal Greater)) ≡ true
    by_test true e = absurd (let l = ltb-true a a e in omega arith)
    by_test false e = ap (λ q. is_eq (cond q Equal Greater)) (eq-eqb a a refl)

distinct_push : (k : ℕ) (ks : List ℕ) → (Among k ks → ⊥) → AreDistinct ks → AreDistinct (ks ++ k ∷ [])
distinct_push k [] n a = (λ b. b, tt)
distinct_push k (j ∷ ks) n a = (λ b. elim (among_push j k ks b) [ inl c ↦ a.0 c | inr e ↦ n (inl (sym e)) ], distinct_push k ks (λ b. n (inr b)) a.1)

among_front : (j : ℕ) (xs ys : List ℕ) → Among j xs → Among j (xs ++ ys)
among_front j [] ys a = absurd a
among_front j (x ∷ xs) ys (inl e) = inl e
among_front j (x ∷ xs) ys (inr a) = inr (among_front j xs ys a)

module _ (ds : List Definition) (w : Waiter) (rest : List Waiter) (order : List ℕ) (ahead : List Bool) (free : List ℕ) (waiters : List (List Waiter)) (s : IsSorting ds (w ∷ rest) order ahead free waiters) where
  -- it waits for the variable v, the first from its place on that is ahead
  module _ (v from : ℕ) (d : Definition) (is : slice_get ds w.definition ≡ Some d) (inside : v < length waiters) (within : from < length (used d.by)) (at : get_or (used d.by) from 0 ≡ v) (here : IsAhead ahead v) (before : (i : ℕ) → i < from → IsAhead ahead (get_or (used d.by) i 0) → ⊥) where
    abbrev next : Waiter
    next = record { definition = w.definition; from = from }

    abbrev now : List (List Waiter)
    now = slice_set waiters v (get_or waiters v [] ++ next ∷ [])

    -- a waiter is the new one, or stood there before
    cases : (u : ℕ) (x : Waiter) → Among x (get_or now u []) → Among x (get_or waiters u []) ⊎ ((u ≡ v) × (next ≡ x))
    cases u x a = elim (at_set waiters v u (get_or waiters v [] ++ next ∷ []) [] inside) [
      | inl e ↦ elim (among_push x next (get_or waiters v []) (subst (Among x) e.1 a)) [
        | inl b ↦ inl (subst (λ k. Among x (get_or waiters k [])) (sym e.0) b)
        | inr q ↦ inr (e.0, q)
      ]
      | inr n ↦ inl (subst (Among x) n.1 a)
    ]

    still : (u : ℕ) (x : Waiter) → Among x (get_or waiters u []) → Among x (get_or now u [])
    still u x a = elim (at_set waiters v u (get_or waiters v [] ++ next ∷ []) [] inside) [
      | inl e ↦ subst (Among x) (sym e.1) (among_left x next (get_or waiters v []) (subst (λ k. Among x (get_or waiters k [])) e.0 a))
      | inr n ↦ subst (Among x) (sym n.1) a
    ]

    new_there : Among next (get_or now v [])
    new_there = subst (Among next) (sym (get_or-set_same waiters v (get_or waiters v [] ++ next ∷ []) [] inside)) (among_last next (get_or waiters v []))

    new_for : Awaits ds next v
    new_for e q = let same = some-once (slice_get ds w.definition) d e is q in subst (λ z. (from < length (used z.by)) × (get_or (used z.by) from 0 ≡ v)) same (within, at)

    pub filed_waiting : IsSorting ds rest order ahead free now
    filed_waiting = record {
      left = s.left;
      ascends = s.ascends;
      count = s.count;
      within = s.within;
      kept = s.kept;
      placed = s.placed;
      distinct = s.distinct;
      apart = s.apart;
      ahead_is = s.ahead_is;
      is_ahead = s.is_ahead;
      free_left = s.free_left;
      free_passed = s.free_passed;
      waits_left = λ u x h a. elim (cases u x a) [ inl b ↦ s.waits_left u x h b | inr q ↦ subst (λ z. Among z.definition s.left) q.1 (s.pends_left w (inl refl)) ];
      waits_for = λ u x h a. elim (cases u x a) [ inl b ↦ s.waits_for u x h b | inr q ↦ subst (λ z. Awaits ds z u) q.1 (subst (Awaits ds next) (sym q.0) new_for) ];
      waits_passed = λ u x h a. elim (cases u x a) [ inl b ↦ s.waits_passed u x h b | inr q ↦ subst (NoneAheadBefore ds ahead) q.1 (record { definition = d; is = is; within = omega arith; before = before }) ];
      pends_left = λ x a. s.pends_left x (inr a);
      pends_passed = λ x a. s.pends_passed x (inr a);
      each = λ k a. elim (s.each k a) [
        | inl f ↦ inl f
        | inr o ↦ elim o [
          | inl q ↦ inr (inl (q.0, q.1, q.2, still q.0 q.1 q.3, q.4))
          | inr q ↦ elim q.1 [
            | inl e ↦ inr (inl (v, next, here, new_there, ap (λ z. z.definition) e ∙ q.2))
            | inr b ↦ inr (inr (q.0, b, q.2))
          ]
        ]
      ];
    }

  -- it uses no variable that is ahead
  module _ (d : Definition) (now : List ℕ) (is : slice_get ds w.definition ≡ Some d) (passed : (i : ℕ) → i < length (used d.by) → IsAhead ahead (get_or (used d.by) i 0) → ⊥) (has : (k : ℕ) → list_any (λ j. is_eq (nat_cmp k j)) now ≡ cond (is_eq (nat_cmp w.definition k)) true (list_any (λ j. is_eq (nat_cmp k j)) free)) where
    free_cases : (k : ℕ) → Has now k → (w.definition ≡ k) ⊎ Has free k
    free_cases k h = by_test (is_eq (nat_cmp w.definition k)) refl (sym (has k) ∙ h)
      where
        by_test : (b : Bool) → is_eq (nat_cmp w.definition k) ≡ b → cond b true (list_any (λ j. is_eq (nat_cmp k j)) free) ≡ true → (w.definition ≡ k) ⊎ Has free k
        by_test true e h = inl (same_cmp w.definition k e)
        by_test false e h = inr h

    free_still : (k : ℕ) → Has free k → Has now k
    free_still k h = has k ∙ by_test (is_eq (nat_cmp w.definition k))
      where
        by_test : (b : Bool) → cond b true (list_any (λ j. is_eq (nat_cmp k j)) free) ≡ true
        by_test true = refl
        by_test false = h

    free_new : Has now w.definition
    free_new = has w.definition ∙ ap (λ b. cond b true (list_any (λ j. is_eq (nat_cmp w.definition j)) free)) (own_cmp w.definition)

    pub filed_free : IsSorting ds rest order ahead now waiters
    filed_free = record {
      left = s.left;
      ascends = s.ascends;
      count = s.count;
      within = s.within;
      kept = s.kept;
      placed = s.placed;
      distinct = s.distinct;
      apart = s.apart;
      ahead_is = s.ahead_is;
      is_ahead = s.is_ahead;
      free_left = λ k h. elim (free_cases k h) [ inl e ↦ subst (λ z. Among z s.left) e (s.pends_left w (inl refl)) | inr f ↦ s.free_left k f ];
      free_passed = λ k i e h q l a. elim (free_cases k h) [
        | inl f ↦
            let same = some-once (slice_get ds w.definition) d e is (ap (slice_get ds) f ∙ q) in
            passed i (subst (λ z. i < length (used z.by)) (sym same) l) (subst (λ z. IsAhead ahead (get_or (used z.by) i 0)) (sym same) a)
        | inr f ↦ s.free_passed k i e f q l a
      ];
      waits_left = s.waits_left;
      waits_for = s.waits_for;
      waits_passed = s.waits_passed;
      pends_left = λ x a. s.pends_left x (inr a);
      pends_passed = λ x a. s.pends_passed x (inr a);
      each = λ k a. elim (s.each k a) [
        | inl f ↦ inl (free_still k f)
        | inr o ↦ elim o [
          | inl q ↦ inr (inl q)
          | inr q ↦ elim q.1 [
            | inl e ↦ inl (subst (Has now) (ap (λ z. z.definition) e ∙ q.2) free_new)
            | inr b ↦ inr (inr (q.0, b, q.2))
          ]
        ]
      ];
    }

module _ (ds : List Definition) (w : Waiter) (rest : List Waiter) (order : List ℕ) (ahead : List Bool) (free : List ℕ) (waiters : List (List Waiter)) (p : NoneAheadBefore ds ahead w) (us : List ℕ) (is : us ≡ used p.definition.by) (from : ℕ) (more : (i : ℕ) → w.from ≤ i → i < from → IsAhead ahead (get_or us i 0) → ⊥) where
  all_before : (i : ℕ) → i < from → IsAhead ahead (get_or (used p.definition.by) i 0) → ⊥
  all_before i l a = elim (cases_lt i w.from) [ inl m ↦ p.before i m a | inr m ↦ more i m l (subst (λ z. IsAhead ahead (get_or z i 0)) (sym is) a) ]

  pub files_waiting : from < length us → IsAhead ahead (get_or us from 0) → get_or us from 0 < length waiters → (row pushed : List Waiter) → row ≡ get_or waiters (get_or us from 0) row → pushed ≡ row ++ record { definition = w.definition; from = from } ∷ [] → IsSorting ds (w ∷ rest) order ahead free waiters → IsSorting ds rest order ahead free (slice_set waiters (get_or us from 0) pushed)
  files_waiting l here inside row pushed e f s =
      let r : pushed ≡ get_or waiters (get_or us from 0) [] ++ record { definition = w.definition; from = from } ∷ [] = f ∙ ap (λ z. z ++ record { definition = w.definition; from = from } ∷ []) (e ∙ get_or_default waiters (get_or us from 0) row [] inside) in
      subst (λ z. IsSorting ds rest order ahead free (slice_set waiters (get_or us from 0) z)) (sym r)
      (filed_waiting ds w rest order ahead free waiters s (get_or us from 0) from p.definition p.is inside (subst (λ z. from < length z) is l) (ap (λ z. get_or z from 0) (sym is)) here all_before)

  pub files_free : (now : List ℕ) → length us ≤ from → ((k : ℕ) → list_any (λ j. is_eq (nat_cmp k j)) now ≡ cond (is_eq (nat_cmp w.definition k)) true (list_any (λ j. is_eq (nat_cmp k j)) free)) → IsSorting ds (w ∷ rest) order ahead free waiters → IsSorting ds rest order ahead now waiters
  files_free now l has s = filed_free ds w rest order ahead free waiters s p.definition now p.is (λ i m a. let q : length us ≡ length (used p.definition.by) = ap length is in all_before i (omega arith) a) has

module _ (ds : List Definition) where
  defined_at : (ks : List ℕ) (k : ℕ) (d : Definition) → Among k ks → slice_get ds k ≡ Some d → is_defined (picked ds ks) d.variable ≡ true
  defined_at [] k d a e = absurd a
  defined_at (j ∷ ks) k d (inl q) e = ap (λ o. is_defined (with_one o (picked ds ks)) d.variable) (ap (slice_get ds) q ∙ e) ∙ ap (λ b. b || is_defined (picked ds ks) d.variable) (eq-eqb d.variable d.variable refl)
  defined_at (j ∷ ks) k d (inr a) e = by_get (slice_get ds j) (defined_at ks k d a e)
    where
      by_get : (o : Option Definition) → is_defined (picked ds ks) d.variable ≡ true → is_defined (with_one o (picked ds ks)) d.variable ≡ true
      by_get None h = h
      by_get (Some c) h = or_right (nat_eq c.variable d.variable) (is_defined (picked ds ks) d.variable) h
        where
          or_right : (a b : Bool) → b ≡ true → (a || b) ≡ true
          or_right true b e = refl
          or_right false b e = e

  abbrev IsLeft : List ℕ → ℕ → Type 0
  IsLeft ks v = (k : ℕ) × (d : Definition) × Among k ks × (slice_get ds k ≡ Some d) × (d.variable ≡ v)

  defined_is : (ks : List ℕ) (v : ℕ) → is_defined (picked ds ks) v ≡ true → IsLeft ks v
  defined_is [] v e = absurd (cc)
  defined_is (j ∷ ks) v e = by_get (slice_get ds j) refl (λ h. let r = defined_is ks v h in (r.0, r.1, inr r.2, r.3, r.4)) e
    where
      by_test : (c : Definition) → slice_get ds j ≡ Some c → (is_defined (picked ds ks) v ≡ true → IsLeft (j ∷ ks) v) → (b : Bool) → nat_eq c.variable v ≡ b → (b || is_defined (picked ds ks) v) ≡ true → IsLeft (j ∷ ks) v
      by_test c q f true t h = (j, c, inl refl, q, eqb-true c.variable v t)
      by_test c q f false t h = f h

      by_get : (o : Option Definition) → slice_get ds j ≡ o → (is_defined (picked ds ks) v ≡ true → IsLeft (j ∷ ks) v) → is_defined (with_one o (picked ds ks)) v ≡ true → IsLeft (j ∷ ks) v
      by_get None q f h = f h
      by_get (Some c) q f h = by_test c q f (nat_eq c.variable v) refl h

all_of : (p : ℕ → Bool) (xs : List ℕ) → ((i : ℕ) → i < length xs → p (get_or xs i 0) ≡ true) → list_all p xs ≡ true
all_of p [] h = refl
all_of p (x ∷ xs) h = ap (λ b. b && list_all p xs) (h 0 (omega arith)) ∙ all_of p xs (λ i l. h (suc i) (omega arith))

not_all : (p : ℕ → Bool) (xs : List ℕ) (i : ℕ) → i < length xs → p (get_or xs i 0) ≡ false → list_all p xs ≡ false
not_all p [] i l e = absurd (omega arith)
not_all p (x ∷ xs) zero l e = ap (λ b. b && list_all p xs) e
not_all p (x ∷ xs) (suc i) l e = and_right (p x) (list_all p xs) (not_all p xs i (omega arith) e)
  where
    and_right : (a b : Bool) → b ≡ false → (a && b) ≡ false
    and_right true b e = e
    and_right false b e = refl

module _ (ds : List Definition) (pending : List Waiter) (order : List ℕ) (ahead : List Bool) (free : List ℕ) (waiters : List (List Waiter)) (s : IsSorting ds pending order ahead free waiters) where
  abbrev rest_of : List Definition
  rest_of = picked ds s.left

  undefined : (v : ℕ) → (IsAhead ahead v → ⊥) → is_defined rest_of v ≡ false
  undefined v n = by_test (is_defined rest_of v) refl
    where
      by_test : (b : Bool) → is_defined rest_of v ≡ b → b ≡ false
      by_test true e = let r = defined_is ds s.left v e in absurd (n (subst (IsAhead ahead) r.4 (s.is_ahead r.0 r.1 r.2 r.3)))
      by_test false e = refl

  is_defined_ahead : (v : ℕ) → IsAhead ahead v → is_defined rest_of v ≡ true
  is_defined_ahead v a = let r = s.ahead_is v a in subst (λ u. is_defined rest_of u ≡ true) r.4 (defined_at ds s.left r.0 r.1 r.2 r.3)

  free_when : (d : Definition) → ((i : ℕ) → i < length (used d.by) → IsAhead ahead (get_or (used d.by) i 0) → ⊥) → is_free rest_of d ≡ true
  free_when d h = all_of (λ v. not (is_defined rest_of v)) (used d.by) (λ i l. ap not (undefined (get_or (used d.by) i 0) (h i l)))

  not_free_when : (d : Definition) (i : ℕ) → i < length (used d.by) → IsAhead ahead (get_or (used d.by) i 0) → is_free rest_of d ≡ false
  not_free_when d i l a = not_all (λ v. not (is_defined rest_of v)) (used d.by) i l (ap not (is_defined_ahead (get_or (used d.by) i 0) a))

  -- one that waits for a variable that is ahead isn't free
  waited_uses : (k : ℕ) (d : Definition) → slice_get ds k ≡ Some d → IsWaited ahead waiters k → (i : ℕ) × (i < length (used d.by)) × IsAhead ahead (get_or (used d.by) i 0)
  waited_uses k d e q =
      let f = s.waits_for q.0 q.1 q.2 q.3 d (ap (slice_get ds) q.4 ∙ e) in
      (q.1.from, f.0, subst (IsAhead ahead) (sym f.1) q.2)

-- where nothing is free and nothing pends, the order is complete
module _ (ds : List Definition) (order : List ℕ) (ahead : List Bool) (waiters : List (List Waiter)) (s : IsSorting ds [] order ahead [] waiters) where
  waited : (k : ℕ) → Among k s.left → IsWaited ahead waiters k
  waited k a = elim (s.each k a) [ inl f ↦ absurd (cc) | inr o ↦ elim o [ inl q ↦ q | inr q ↦ absurd q.1 ] ]

  none_free_left : take_free (picked ds s.left) (picked ds s.left) ≡ None
  none_free_left = none_free ds (picked ds s.left) s.left (λ k a d e. let u = waited_uses ds [] order ahead [] waiters s k d e (waited k a) in not_free_when ds [] order ahead [] waiters s d u.0 u.1 u.2)

  none_left : (ks : List ℕ) → ((k : ℕ) → Among k ks → ⊥) → length ks ≡ 0
  none_left [] h = refl
  none_left (k ∷ ks) h = absurd (h k (inl refl))

  pub is_sorted : IsSorted ds order ahead
  is_sorted = record {
    kept = s.kept ∙ ap (λ es. picked ds order ++ es) (taken_none (length s.left) (picked ds s.left) none_free_left) ∙ append-nil (picked ds order);
    placed = s.placed;
    distinct = s.distinct;
    closed = λ v a.
        let r = s.ahead_is v a in
        let u = waited_uses ds [] order ahead [] waiters s r.0 r.1 r.3 (waited r.0 r.2) in
        (r.0, r.1, u.0, r.3, r.4, u.1, u.2);
    whole = λ n.
        let z = none_left s.left (λ k a. let d = s.within k a in n d.0.variable (s.is_ahead k d.0 a d.1)) in
        let c = s.count in
        omega arith;
  }

-- the least that is free is taken, and what waited for its variable pends
module _ (ds : List Definition) (once : HaveOnce ds) (order : List ℕ) (ahead : List Bool) (k : ℕ) (free : List ℕ) (waiters : List (List Waiter)) (first : (j : ℕ) → Has free j → k < j) (s : IsSorting ds [] order ahead (k ∷ free) waiters) where
  pub has_it : Has (k ∷ free) k
  has_it = ap (λ b. b || list_any (λ j. is_eq (nat_cmp k j)) free) (own_cmp k)

  pub is_left : Among k s.left
  is_left = s.free_left k has_it

  abbrev d : Definition
  d = (s.within k is_left).0

  at_k : slice_get ds k ≡ Some d
  at_k = (s.within k is_left).1

  its_ahead : IsAhead ahead d.variable
  its_ahead = s.is_ahead k d is_left at_k

  has_later : (j : ℕ) → Has free j → Has (k ∷ free) j
  has_later j h = or_right (is_eq (nat_cmp j k)) (list_any (λ i. is_eq (nat_cmp j i)) free) h
    where
      or_right : (a b : Bool) → b ≡ true → (a || b) ≡ true
      or_right true b e = refl
      or_right false b e = e

  has_cases : (j : ℕ) → Has (k ∷ free) j → (j ≡ k) ⊎ Has free j
  has_cases j h = by_test (is_eq (nat_cmp j k)) refl h
    where
      by_test : (b : Bool) → is_eq (nat_cmp j k) ≡ b → (b || list_any (λ i. is_eq (nat_cmp j i)) free) ≡ true → (j ≡ k) ⊎ Has free j
      by_test true e h = inl (same_cmp j k e)
      by_test false e h = inr h

  p : Parted 0 k s.left
  p = parted 0 k s.left s.ascends is_left

  its_free : is_free (picked ds s.left) d ≡ true
  its_free = free_when ds [] order ahead (k ∷ free) waiters s d (λ i l a. s.free_passed k i d has_it at_k l a)

  -- none before it is free
  earlier : (j : ℕ) → Among j p.before → FreeIs ds (picked ds s.left) false j
  earlier j a e q =
      let l = p.less j a in
      let in_left : Among j s.left = subst (Among j) (sym p.is) (among_front j p.before (k ∷ p.after) a) in
      elim (s.each j in_left) [
        | inl f ↦ elim (has_cases j f) [ inl g ↦ absurd (omega arith) | inr g ↦ let m = first j g in absurd (omega arith) ]
        | inr o ↦ elim o [
          | inl w ↦ let u = waited_uses ds [] order ahead (k ∷ free) waiters s j e q w in not_free_when ds [] order ahead (k ∷ free) waiters s e u.0 u.1 u.2
          | inr w ↦ absurd w.1
        ]
      ]

  taken_first : taken (length s.left) (picked ds s.left) ≡ d ∷ taken (length (p.before ++ p.after)) (picked ds (p.before ++ p.after))
  taken_first = taken_some (length s.left) (length (p.before ++ p.after)) (picked ds s.left) (picked ds (p.before ++ p.after)) d p.count (subst (λ z. take_free (picked ds s.left) (picked ds z) ≡ Some (d, picked ds (p.before ++ p.after))) (sym p.is) (first_free ds (picked ds s.left) p.before k p.after d at_k its_free earlier))

  abbrev unmarked : List Bool
  unmarked = slice_set ahead d.variable false

  module _ (inside : d.variable < length ahead) (inside_rows : d.variable < length waiters) where
    -- a variable that is still ahead was ahead, and is another
    was : (v : ℕ) → IsAhead unmarked v → IsAhead ahead v × (v ≡ d.variable → ⊥)
    was v a = elim (at_set ahead d.variable v false false inside) [
      | inl e ↦ absurd (let f : false ≡ true = sym e.1 ∙ a in cc)
      | inr n ↦ (sym n.1 ∙ a, n.0)
    ]

    others_ahead : (v : ℕ) → IsAhead ahead v → (v ≡ d.variable → ⊥) → IsAhead unmarked v
    others_ahead v a n = get_or-set_other ahead d.variable v false false n ∙ a

    passed_now : (w : Waiter) → NoneAheadBefore ds ahead w → NoneAheadBefore ds unmarked w
    passed_now w h = record { definition = h.definition; is = h.is; within = h.within; before = λ i l a. h.before i l (was (get_or (used h.definition.by) i 0) a).0 }

    abbrev rows : List (List Waiter)
    rows = slice_set waiters d.variable []

    row_same : (v : ℕ) → (v ≡ d.variable → ⊥) → get_or rows v [] ≡ get_or waiters v []
    row_same v n = get_or-set_other waiters d.variable v [] [] n

    -- a definition that waits isn't the one that is taken
    waits_other : (v : ℕ) (w : Waiter) → IsAhead ahead v → Among w (get_or waiters v []) → w.definition ≡ k → ⊥
    waits_other v w a m e =
        let f = s.waits_for v w a m d (ap (slice_get ds) e ∙ at_k) in
        s.free_passed k w.from d has_it at_k f.0 (subst (IsAhead ahead) (sym f.1) a)

    pub closed : IsSorting ds (get_or waiters d.variable []) (order ++ k ∷ []) unmarked free rows
    closed = record {
      left = p.before ++ p.after;
      ascends = p.ascends;
      count = let a = s.count in let b = p.count in let c = length-append order (k ∷ []) in let e : length (k ∷ []) ≡ 1 = refl in omega arith;
      within = λ j a. s.within j (p.others j a);
      kept = s.kept ∙ ap (λ es. picked ds order ++ es) taken_first ∙ sym (append_assoc (picked ds order) (d ∷ []) (taken (length (p.before ++ p.after)) (picked ds (p.before ++ p.after)))) ∙ ap (λ es. es ++ taken (length (p.before ++ p.after)) (picked ds (p.before ++ p.after))) (sym (picked_push ds order k d at_k));
      placed = λ j a. elim (among_push j k order a) [ inl b ↦ s.placed j b | inr e ↦ subst (λ z. (c : Definition) × (slice_get ds z ≡ Some c)) e (d, at_k) ];
      distinct = distinct_push k order (λ a. s.apart k a is_left) s.distinct;
      apart = λ j a b. elim (among_push j k order a) [ inl c ↦ s.apart j c (p.others j b) | inr e ↦ p.gone (subst (λ z. Among z (p.before ++ p.after)) (sym e) b) ];
      ahead_is = λ v a.
          let t = was v a in
          let r = s.ahead_is v t.0 in
          (r.0, r.1, p.left r.0 r.2 (λ e. t.1 (sym r.4 ∙ ap (λ z. z.variable) (some-once (slice_get ds k) r.1 d (ap (slice_get ds) (sym e) ∙ r.3) at_k))), r.3, r.4);
      is_ahead = λ j e a q. others_ahead e.variable (s.is_ahead j e (p.others j a) q) (λ h. p.gone (subst (λ z. Among z (p.before ++ p.after)) (once j k e d q at_k h) a));
      free_left = λ j h. p.left j (s.free_left j (has_later j h)) (λ e. let l = first j h in absurd (omega arith));
      free_passed = λ j i e h q l a. s.free_passed j i e (has_later j h) q l (was (get_or (used e.by) i 0) a).0;
      waits_left = λ v w a m. let t = was v a in let n = subst (Among w) (row_same v t.1) m in p.left w.definition (s.waits_left v w t.0 n) (waits_other v w t.0 n);
      waits_for = λ v w a m. let t = was v a in s.waits_for v w t.0 (subst (Among w) (row_same v t.1) m);
      waits_passed = λ v w a m. let t = was v a in passed_now w (s.waits_passed v w t.0 (subst (Among w) (row_same v t.1) m));
      pends_left = λ w m. p.left w.definition (s.waits_left d.variable w its_ahead m) (waits_other d.variable w its_ahead m);
      pends_passed = λ w m. passed_now w (s.waits_passed d.variable w its_ahead m);
      each = λ j a. elim (s.each j (p.others j a)) [
        | inl f ↦ elim (has_cases j f) [ inl e ↦ absurd (p.gone (subst (λ z. Among z (p.before ++ p.after)) e a)) | inr g ↦ inl g ]
        | inr o ↦ elim o [
          | inl q ↦ elim (cases_eq q.0 d.variable) [
            | inl e ↦ inr (inr (q.1, subst (λ z. Among q.1 (get_or waiters z [])) e q.3, q.4))
            | inr n ↦ inr (inl (q.0, q.1, others_ahead q.0 q.2 n, subst (Among q.1) (sym (row_same q.0 n)) q.3, q.4))
          ]
          | inr q ↦ absurd q.1
        ]
      ];
    }

pub closed_at : (ds : List Definition) → HaveOnce ds → (order : List ℕ) (ahead : List Bool) (k : ℕ) (free : List ℕ) (waiters : List (List Waiter)) → ((j : ℕ) → Has free j → k < j) → (s : IsSorting ds [] order ahead (k ∷ free) waiters) (c : Definition) → slice_get ds k ≡ Some c → c.variable < length ahead → c.variable < length waiters → IsSorting ds (get_or waiters c.variable []) (order ++ k ∷ []) (slice_set ahead c.variable false) free (slice_set waiters c.variable [])
unfolding is_left
closed_at ds once order ahead k free waiters first s c e l m =
    let at = s.within k (s.free_left k (has_it ds once order ahead k free waiters first s)) in
    let same = some-once (slice_get ds k) at.0 c at.1 e in
    subst (λ z. IsSorting ds (get_or waiters z.variable []) (order ++ k ∷ []) (slice_set ahead z.variable false) free (slice_set waiters z.variable [])) same
    (closed ds once order ahead k free waiters first s (subst (λ z. z.variable < length ahead) (sym same) l) (subst (λ z. z.variable < length waiters) (sym same) m))

-- the same with the numbers of variables
pub record IsFiled (n : ℕ) (ds : List Definition) (pending : List Waiter) (order : List ℕ) (ahead : List Bool) (free : List ℕ) (waiters : List (List Waiter)) : Type 0 where
  pub count : length ahead ≡ n
  pub rows : length waiters ≡ n
  pub sorting : IsSorting ds pending order ahead free waiters
