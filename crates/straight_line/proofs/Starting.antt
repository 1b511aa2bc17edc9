-- Definitions of which none is in order yet, and the next of a list of them.
use Rattle.std.proofs.Common.{◌≡◌, refl, sym, ap, ◌∙◌, subst, ℕ, zero, suc, ◌+◌, ◌-◌, ◌<◌, ◌≤◌, inl, inr, Bool, true, false, ◌||◌, List, [], ◌∷◌, ◌++◌, length, get_or, replicate, drop, drop-cons, Some, arith, length-append}
use Rattle.std.specs.Prelude.{slice_get, slice_set, All}
use Rattle.std.specs.List.{list_any, range_with_len}
use Rattle.std.specs.Ordering.{is_eq, nat_cmp}
use Rattle.std.specs.declared.cmp.Ordering.TheVariants.{Less, Equal, Greater}
use Rattle.std.specs.Cmp.{nat_cmp_is}
use Rattle.std.proofs.lemmas.Bool.{cases_eq, cases_lt}
use Rattle.std.proofs.lemmas.Option.{slice_get-get_or, slice_get_within}
use Rattle.std.proofs.lemmas.List.{get_or_default, length-set}
use Rattle.std.proofs.lemmas.List.FromFn.{length-range_with_len}
use Rattle.sv_list.specs.Lists.{some-once}
use Rattle.flat_cubes.specs.Flattening.{taken}
use Rattle.flat_cubes.specs.Straight.{HaveVariablesBelow}
use Rattle.flat_cubes.specs.Members.{Among}
use Rattle.straight_line.specs.Waiting.{AscendsFrom, Has, HaveOnce, AreFirstMarked, IsSorting, picked, waiters_from, with_one}
use Rattle.flat_cubes.specs.declared.definition.Definition.{Definition}
use Rattle.straight_line.specs.declared.ordering.Waiter.{Waiter}
use Rattle.straight_line.proofs.Sorted.{IsFiled, at_set, closed_at, own_cmp, same_cmp}
use Rattle.straight_line.proofs.Uses.{within_variable}

-- places from a number on
among_range : (a n k : ℕ) → Among k (range_with_len a n) → (a ≤ k) × (k < a + n)
among_range a zero k h = absurd h
among_range a (suc n) k (inl e) = (omega arith, omega arith)
among_range a (suc n) k (inr h) = let r = among_range (a + 1) n k h in let p = r.0 in let q = r.1 in (omega arith, omega arith)

range_among : (a n k : ℕ) → a ≤ k → k < a + n → Among k (range_with_len a n)
range_among a zero k l m = absurd (omega arith)
range_among a (suc n) k l m = elim (cases_eq a k) [ inl e ↦ inl e | inr q ↦ inr (range_among (a + 1) n k (omega arith) (omega arith)) ]

range_ascends : (low a n : ℕ) → low ≤ a → AscendsFrom low (range_with_len a n)
range_ascends low a zero l = tt
range_ascends low a (suc n) l = (l, range_ascends (a + 1) (a + 1) n (omega arith))

-- all places of a list pick its definitions
picked_behind : (front ds : List Definition) (a : ℕ) → length front ≡ a → picked (front ++ ds) (range_with_len a (length ds)) ≡ ds
picked_behind front [] a e = refl
picked_behind front (d ∷ ds) a e =
    ap (λ o. with_one o (picked (front ++ d ∷ ds) (range_with_len (a + 1) (length ds)))) (next front a e)
    ∙ ap (λ es. d ∷ es) (ap (λ xs. picked xs (range_with_len (a + 1) (length ds))) (move front) ∙ picked_behind (front ++ d ∷ []) ds (a + 1) (longer front a e))
  where
    next : (front : List Definition) (a : ℕ) → length front ≡ a → slice_get (front ++ d ∷ ds) a ≡ Some d
    next [] zero e = refl
    next [] (suc a) e = absurd (omega arith)
    next (f ∷ front) zero e = absurd (omega arith)
    next (f ∷ front) (suc a) e = next front a (omega arith)

    move : (front : List Definition) → front ++ d ∷ ds ≡ (front ++ d ∷ []) ++ ds
    move [] = refl
    move (f ∷ front) = ap (λ l. f ∷ l) (move front)

    longer : (front : List Definition) (a : ℕ) → length front ≡ a → length (front ++ d ∷ []) ≡ a + 1
    longer [] a e = omega arith
    longer (f ∷ front) zero e = absurd (omega arith)
    longer (f ∷ front) (suc a) e = let r = longer front a (omega arith) in omega arith

among_waiters : (i n : ℕ) (w : Waiter) → Among w (waiters_from i n) → (i ≤ w.definition) × (w.definition < i + n) × (w.from ≡ 0)
among_waiters i zero w h = absurd h
among_waiters i (suc n) w (inl e) = subst (λ z. (i ≤ z.definition) × (z.definition < i + suc n) × (z.from ≡ 0)) e (omega arith, omega arith, refl)
among_waiters i (suc n) w (inr h) = let r = among_waiters (i + 1) n w h in let p = r.0 in let q = r.1 in (omega arith, omega arith, r.2)

waiters_among : (i n k : ℕ) → i ≤ k → k < i + n → Among (record { definition = k; from = 0 }) (waiters_from i n)
waiters_among i zero k l m = absurd (omega arith)
waiters_among i (suc n) k l m = elim (cases_eq i k) [ inl e ↦ inl (ap (λ z. record { definition = z; from = 0 }) e) | inr q ↦ inr (waiters_among (i + 1) n k (omega arith) (omega arith)) ]

abbrev pub nobody : List Waiter
nobody = []

no_waiters : (n v : ℕ) → get_or (replicate n nobody) v nobody ≡ nobody
no_waiters zero v = refl
no_waiters (suc n) zero = refl
no_waiters (suc n) (suc v) = no_waiters n v

pub started : (ds : List Definition) (n : ℕ) (ahead : List Bool) (rows : List (List Waiter)) → rows ≡ replicate n nobody → AreFirstMarked ds (length ds) ahead → IsSorting ds (waiters_from 0 (length ds)) [] ahead [] rows
started ds n ahead rows r m =
    let none : (v : ℕ) (w : Waiter) → Among w (get_or rows v []) → ⊥ = λ v w a. subst (Among w) (ap (λ z. get_or z v []) r ∙ no_waiters n v) a in
    let all : picked ds (range_with_len 0 (length ds)) ≡ ds = picked_behind [] ds 0 refl in
    let in_range : (k : ℕ) → Among k (range_with_len 0 (length ds)) → k < length ds = λ k a. let q = (among_range 0 (length ds) k a).1 in omega arith in
    let there : (k : ℕ) → k < length ds → (d : Definition) × (slice_get ds k ≡ Some d) = λ k l. item_there ds k l in
    record {
      left = range_with_len 0 (length ds);
      ascends = range_ascends 0 0 (length ds) (omega arith);
      count = let e = length-range_with_len 0 (length ds) in omega arith;
      within = λ k a. there k (in_range k a);
      kept = ap (λ k. taken k ds) (sym (length-range_with_len 0 (length ds))) ∙ ap (taken (length (range_with_len 0 (length ds)))) (sym all);
      placed = λ k a. absurd a;
      distinct = tt;
      apart = λ k a b. a;
      ahead_is = λ v a. let q = m.ahead_is v a in (q.0, q.1, range_among 0 (length ds) q.0 (omega arith) (let l = q.2 in omega arith), q.3, q.4);
      is_ahead = λ k d a e. m.is_ahead k d (in_range k a) e;
      free_left = λ k h. absurd (cc);
      free_passed = λ k i d h e l a. absurd (cc);
      waits_left = λ v w a b. absurd (none v w b);
      waits_for = λ v w a b. absurd (none v w b);
      waits_passed = λ v w a b. absurd (none v w b);
      pends_left = λ w a. let q = among_waiters 0 (length ds) w a in let l = q.1 in range_among 0 (length ds) w.definition (omega arith) (omega arith);
      pends_passed = λ w a.
          let q = among_waiters 0 (length ds) w a in
          let z = q.2 in
          let t = there w.definition (let l = q.1 in omega arith) in
          record { definition = t.0; is = t.1; within = omega arith; before = λ i l b. absurd (omega arith) };
      each = λ k a. inr (inr (record { definition = k; from = 0 }, waiters_among 0 (length ds) k (omega arith) (let l = in_range k a in omega arith), refl));
    }
  where
    item_there : (ds : List Definition) (k : ℕ) → k < length ds → (d : Definition) × (slice_get ds k ≡ Some d)
    item_there [] k l = absurd (omega arith)
    item_there (d ∷ ds) zero l = (d, refl)
    item_there (d ∷ ds) (suc k) l = item_there ds k (omega arith)

-- marks
falses : (n v : ℕ) → get_or (replicate n false) v false ≡ false
falses zero v = refl
falses (suc n) zero = refl
falses (suc n) (suc v) = falses n v

pub marked_none : (ds : List Definition) (n : ℕ) (ahead : List Bool) → ahead ≡ replicate n false → AreFirstMarked ds 0 ahead
marked_none ds n ahead e = record {
  ahead_is = λ v a. absurd (let f : false ≡ true = sym (ap (λ z. get_or z v false) e ∙ falses n v) ∙ a in cc);
  is_ahead = λ k d l q. absurd (omega arith);
}

pub marked_more : (ds : List Definition) (i : ℕ) (d : Definition) (ahead : List Bool) → i < length ds → d ≡ get_or ds i d → d.variable < length ahead → AreFirstMarked ds i ahead → AreFirstMarked ds (i + 1) (slice_set ahead d.variable true)
marked_more ds i d ahead l e inside m =
    let at : slice_get ds i ≡ Some d = slice_get-get_or ds i d l ∙ ap Some (sym e) in
    record {
      ahead_is = λ v a. elim (at_set ahead d.variable v true false inside) [
        | inl q ↦ (i, d, omega arith, at, sym q.0)
        | inr q ↦ let r = m.ahead_is v (sym q.1 ∙ a) in (r.0, r.1, let n = r.2 in omega arith, r.3, r.4)
      ];
      is_ahead = λ k c n q. elim (at_set ahead d.variable c.variable true false inside) [
        | inl p ↦ p.1
        | inr p ↦ elim (cases_lt k i) [
          | inl h ↦ p.1 ∙ m.is_ahead k c h q
          | inr h ↦ let s : k ≡ i = omega arith in absurd (p.0 (ap (λ z. z.variable) (some-once (slice_get ds i) c d (ap (slice_get ds) (sym s) ∙ q) at)))
        ]
      ];
    }

-- one was filed
pub filed_step : (n : ℕ) (ds : List Definition) (w : Waiter) (rest : List Waiter) (order order' : List ℕ) (ahead ahead' : List Bool) (free free' : List ℕ) (rows rows' : List (List Waiter)) → IsFiled n ds (w ∷ rest) order ahead free rows → ahead' ≡ ahead → length rows' ≡ length rows → ((rest : List Waiter) → IsSorting ds (w ∷ rest) order ahead free rows → IsSorting ds rest order' ahead' free' rows') → IsFiled n ds rest order' ahead' free' rows'
filed_step n ds w rest order order' ahead ahead' free free' rows rows' f e l g = record { count = ap length e ∙ f.count; rows = l ∙ f.rows; sorting = g rest f.sorting }

pub filed_as : (n : ℕ) (ds : List Definition) (ws vs : List Waiter) (order : List ℕ) (ahead : List Bool) (free : List ℕ) (rows : List (List Waiter)) → ws ≡ vs → IsFiled n ds ws order ahead free rows → IsFiled n ds vs order ahead free rows
filed_as n ds ws vs order ahead free rows e f = subst (λ z. IsFiled n ds z order ahead free rows) e f

pub waiters_next : (i n : ℕ) → i < n → waiters_from i (n - i) ≡ record { definition = i; from = 0 } ∷ waiters_from (i + 1) (n - (i + 1))
waiters_next i n l = let e : n - i ≡ suc (n - (i + 1)) = omega arith in ap (waiters_from i) e

-- the least of all that are free
pub all_has : (P : ℕ → Type 0) (free : List ℕ) → All P free → (k : ℕ) → Has free k → P k
all_has P [] a k h = absurd (cc)
all_has P (j ∷ free) a k h = by_test (is_eq (nat_cmp k j)) refl h (λ q. all_has P free (λ i d l. a (suc i) d (omega arith)) k q)
  where
    by_test : (b : Bool) → is_eq (nat_cmp k j) ≡ b → (b || list_any (λ i. is_eq (nat_cmp k i)) free) ≡ true → (Has free k → P k) → P k
    by_test true e h f = subst P (sym (same_cmp k j e)) (a 0 j (omega arith))
    by_test false e h f = f h

pub cmp_less : (a b : ℕ) → nat_cmp a b ≡ Less → a < b
cmp_less a b h = elim (cases_lt a b) [
  | inl l ↦ l
  | inr l ↦ elim (cases_eq a b) [
    | inl e ↦ absurd (let f : Equal ≡ Less = nat_cmp_is a b Equal e ∙ h in cc)
    | inr n ↦ absurd (let f : Greater ≡ Less = nat_cmp_is a b Greater (omega arith) ∙ h in cc)
  ]
]

pub least_within : (ds : List Definition) (order : List ℕ) (ahead : List Bool) (k : ℕ) (free : List ℕ) (rows : List (List Waiter)) → IsSorting ds [] order ahead (k ∷ free) rows → k < length ds
least_within ds order ahead k free rows s =
    let t = s.within k (s.free_left k (has_first k free)) in slice_get_within ds k t.0 t.1
  where
    has_first : (k : ℕ) (free : List ℕ) → Has (k ∷ free) k
    has_first k free = ap (λ b. b || list_any (λ j. is_eq (nat_cmp k j)) free) (own_cmp k)

pub filed_closed : (n : ℕ) (ds : List Definition) (order order' : List ℕ) (ahead ahead' : List Bool) (k : ℕ) (free : List ℕ) (rows : List (List Waiter)) (d : Definition) (row empty ws : List Waiter) → length ahead ≡ n → length rows ≡ length ahead → HaveVariablesBelow n ds → HaveOnce ds → k < length ds → ((j : ℕ) → Has free j → k < j) → IsSorting ds [] order ahead (k ∷ free) rows → slice_get ds k ≡ Some d → order' ≡ order ++ k ∷ [] → ahead' ≡ slice_set ahead d.variable false → row ≡ get_or rows d.variable row → ws ≡ row → empty ≡ [] → (length order' ≡ length order + 1) × IsFiled n ds ws order' ahead' free (slice_set rows d.variable empty)
filed_closed n ds order order' ahead ahead' k free rows d row empty ws a r within once inside first s e o h w v z =
    let in_ahead : d.variable < length ahead = let l = within_variable n ds k d within e in omega arith in
    let in_rows : d.variable < length rows = omega arith in
    let t = closed_at ds once order ahead k free rows first s d e in_ahead in_rows in
    let ws_is : get_or rows d.variable [] ≡ ws = get_or_default rows d.variable [] row in_rows ∙ sym w ∙ sym v in (
      ap length o ∙ length-append order (k ∷ []),
      record {
        count = ap length h ∙ length-set ahead d.variable false ∙ a;
        rows = length-set rows d.variable empty ∙ r ∙ a;
        sorting = subst (λ x. IsSorting ds ws x ahead' free (slice_set rows d.variable empty)) (sym o) (subst (λ x. IsSorting ds ws (order ++ k ∷ []) x free (slice_set rows d.variable empty)) (sym h) (subst (λ x. IsSorting ds ws (order ++ k ∷ []) (slice_set ahead d.variable false) free (slice_set rows d.variable x)) (sym z) (subst (λ x. IsSorting ds x (order ++ k ∷ []) (slice_set ahead d.variable false) free (slice_set rows d.variable [])) ws_is t)));
      },
    )

pub filed_drop : (n : ℕ) (ds : List Definition) (ws : List Waiter) (i : ℕ) (w : Waiter) (order order' : List ℕ) (ahead ahead' : List Bool) (free free' : List ℕ) (rows rows' : List (List Waiter)) → i < length ws → IsFiled n ds (drop i ws) order ahead free rows → ahead' ≡ ahead → length rows' ≡ length rows → ((rest : List Waiter) → IsSorting ds (get_or ws i w ∷ rest) order ahead free rows → IsSorting ds rest order' ahead' free' rows') → IsFiled n ds (drop (i + 1) ws) order' ahead' free' rows'
filed_drop n ds ws i w order order' ahead ahead' free free' rows rows' l f e r g =
    let q : i + 1 ≡ suc i = omega arith in
    subst (λ k. IsFiled n ds (drop k ws) order' ahead' free' rows') (sym q) (filed_step n ds (get_or ws i w) (drop (suc i) ws) order order' ahead ahead' free free' rows rows' (filed_as n ds (drop i ws) (get_or ws i w ∷ drop (suc i) ws) order ahead free rows (drop-cons ws i w l) f) e r g)

pub empty_keys : (keys : List ℕ) → (0 < length keys → ⊥) → keys ≡ []
empty_keys [] h = refl
empty_keys (k ∷ keys) h = absurd (h (omega arith))
