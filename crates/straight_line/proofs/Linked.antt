-- From places to variables: the number of a place's variable is the place of its root among the roots.
use Rattle.std.proofs.Common.{◌≡◌, refl, sym, ap, ◌∙◌, subst, ℕ, zero, suc, ◌+◌, ◌<◌, ◌≤◌, inl, inr, max, Bool, true, false, List, [], ◌∷◌, map, length, get_or, cond, arith, lt-ltb, le-ltb}
use Rattle.std.specs.Prelude.{nat_eq}
use Rattle.std.specs.List.{AllByRecursion, range_with_len}
use Rattle.std.proofs.lemmas.Bool.{cases_eq, eq-eqb, eqb-true}
use Rattle.std.proofs.lemmas.List.{get_or_default, length-map, get_or-map}
use Rattle.std.proofs.lemmas.List.FromFn.{get_or-map-range_with_len, get_or-range_with_len, length-range_with_len}
use Rattle.flat_cubes.specs.Using.{used}
use Rattle.flat_cubes.specs.Flattening.{identified, made_one, renamed}
use Rattle.straight_line.specs.Leading.{AreDefinitionsBelow, ArePairsBelow, AreRooted, IsForest, definition_by, ordinal, roots_in}
use Rattle.flat_cubes.specs.Straight.{AreBelow, HaveVariablesBelow}
use Rattle.flat_cubes.specs.declared.definition.By.{By}
use Rattle.flat_cubes.specs.declared.definition.By.TheVariants as by
use Rattle.straight_line.proofs.Identified.{Rooted, identified_length, identified_rooted, made_length, step, step_other, step_high}
use Rattle.straight_line.proofs.Leads.{starts_forest}
use Rattle.straight_line.proofs.Ordinals.{below, none_below, passing, placed}
use Rattle.straight_line.proofs.Ranked.{is_root}

-- least places aren't greater
step_lower : (a b r i : ℕ) → r ≤ i → step a b r ≤ i
step_lower a b r i l = elim (cases_eq r (max a b)) [
  | inl e ↦ let h = step_high a b r e in omega arith
  | inr n ↦ let h = step_other a b r n in omega arith
]

made_lower : (a b : ℕ) (xs : List ℕ) → IsForest xs → IsForest (made_one a b xs)
made_lower a b xs f i l =
    let m : i < length xs = subst (λ n. i < n) (made_length a b xs) l in
    subst (λ z. z ≤ i) (sym (get_or-map (step a b) xs i 0 0 m)) (step_lower a b (get_or xs i 0) i (f i m))

pub identified_lower : (es : List (ℕ × ℕ)) (xs : List ℕ) → IsForest xs → IsForest (identified es xs)
identified_lower [] xs f = f
identified_lower ((i, j) ∷ es) xs f = identified_lower es (made_one (get_or xs i i) (get_or xs j j) xs) (made_lower (get_or xs i i) (get_or xs j j) xs f)

range_rooted : (n : ℕ) → Rooted (range_with_len 0 n)
range_rooted n i l =
    let m : i < n = subst (λ k. i < k) (length-range_with_len 0 n) l in
    let e : get_or (range_with_len 0 n) i i ≡ i = get_or-range_with_len 0 n i i m ∙ (omega arith) in
    (subst (λ z. z < length (range_with_len 0 n)) (sym e) l, ap (λ z. get_or (range_with_len 0 n) z z) e)

-- where the i-th that passes stands
passing_above : (p : ℕ → Bool) (k m v : ℕ) → v < length (passing p k m) → k ≤ get_or (passing p k m) v 0
passing_above p k zero v l = absurd (omega arith)
passing_above p k (suc m) v l = by_test (p k) v l (λ w h. passing_above p (k + 1) m w h)
  where
    by_test : (b : Bool) (v : ℕ) → v < length (cond b (k ∷ passing p (k + 1) m) (passing p (k + 1) m)) → ((w : ℕ) → w < length (passing p (k + 1) m) → k + 1 ≤ get_or (passing p (k + 1) m) w 0) → k ≤ get_or (cond b (k ∷ passing p (k + 1) m) (passing p (k + 1) m)) v 0
    by_test true zero l f = omega arith
    by_test true (suc v) l f = let h = f v (omega arith) in omega arith
    by_test false v l f = let h = f v l in omega arith

root_place : (p : ℕ → Bool) (k m v : ℕ) → v < length (passing p k m) → length (below (get_or (passing p k m) v 0) (passing p k m)) ≡ v
root_place p k zero v l = absurd (omega arith)
root_place p k (suc m) v l = by_test (p k) v l (λ w h. root_place p (k + 1) m w h)
  where
    by_test : (b : Bool) (v : ℕ) → v < length (cond b (k ∷ passing p (k + 1) m) (passing p (k + 1) m)) → ((w : ℕ) → w < length (passing p (k + 1) m) → length (below (get_or (passing p (k + 1) m) w 0) (passing p (k + 1) m)) ≡ w) → length (below (get_or (cond b (k ∷ passing p (k + 1) m) (passing p (k + 1) m)) v 0) (cond b (k ∷ passing p (k + 1) m) (passing p (k + 1) m))) ≡ v
    by_test true zero l f = ap (λ t. length (cond t (k ∷ below k (passing p (k + 1) m)) (below k (passing p (k + 1) m)))) (le-ltb k k (omega arith)) ∙ ap length (none_below p k (k + 1) m (omega arith))
    by_test true (suc v) l f =
        let a = passing_above p (k + 1) m v (omega arith) in
        ap (λ t. length (cond t (k ∷ below (get_or (passing p (k + 1) m) v 0) (passing p (k + 1) m)) (below (get_or (passing p (k + 1) m) v 0) (passing p (k + 1) m)))) (lt-ltb k (get_or (passing p (k + 1) m) v 0) (omega arith)) ∙ ap suc (f v (omega arith))
    by_test false v l f = f v l

module _ (n : ℕ) (es : List (ℕ × ℕ)) (w : ArePairsBelow n es) where
  abbrev pub least : List ℕ
  least = identified es (range_with_len 0 n)

  abbrev pub roots : List ℕ
  roots = roots_in n least

  pub least_count : length least ≡ n
  least_count = identified_length es (range_with_len 0 n) ∙ length-range_with_len 0 n

  pub least_lower : IsForest least
  least_lower = identified_lower es (range_with_len 0 n) (starts_forest n)

  rooted : Rooted least
  rooted = identified_rooted es (range_with_len 0 n) (subst (λ m. AllByRecursion (λ (e : ℕ × ℕ). (e.0 < m) × (e.1 < m)) es) (sym (length-range_with_len 0 n)) w) (range_rooted n)

  within : (i : ℕ) → i < n → i < length least
  within i l = subst (λ m. i < m) (sym least_count) l

  pub least_rooted : AreRooted least
  least_rooted i l =
      let r = rooted i l in
      let e = get_or_default least i i 0 l in
      ap (λ z. get_or least z 0) (sym e) ∙ get_or_default least (get_or least i i) 0 (get_or least i i) r.0 ∙ r.1 ∙ e

  root_at : (i : ℕ) → i < n → is_root least (get_or least i i) ≡ true
  root_at i l = eq-eqb (get_or least (get_or least i i) (get_or least i i)) (get_or least i i) (rooted i (within i l)).1

  at : (i : ℕ) → i < n → (ordinal n least i < length roots) × ((d : ℕ) → get_or roots (ordinal n least i) d ≡ get_or least i i)
  at i l = placed (is_root least) (get_or least i i) 0 n (root_at i l) (omega arith) (let h = (rooted i (within i l)).0 in let e = least_count in omega arith)

  pub ordinal_within : (i : ℕ) → i < n → ordinal n least i < length roots
  ordinal_within i l = (at i l).0

  -- a place has the variable v exactly where its least place is the v-th root
  pub same_root : (i v : ℕ) → i < n → v < length roots → nat_eq (ordinal n least i) v ≡ nat_eq (get_or least i i) (get_or roots v 0)
  same_root i v l m = by_tests (nat_eq (ordinal n least i) v) (nat_eq (get_or least i i) (get_or roots v 0)) refl refl
    where
      by_tests : (a b : Bool) → nat_eq (ordinal n least i) v ≡ a → nat_eq (get_or least i i) (get_or roots v 0) ≡ b → a ≡ b
      by_tests true true e f = refl
      by_tests false false e f = refl
      by_tests true false e f =
          let q = eqb-true (ordinal n least i) v e in
          let r : get_or least i i ≡ get_or roots v 0 = sym ((at i l).1 0) ∙ ap (λ z. get_or roots z 0) q in
          sym (eq-eqb (get_or least i i) (get_or roots v 0) r) ∙ f
      by_tests false true e f =
          let q = eqb-true (get_or least i i) (get_or roots v 0) f in
          let r : ordinal n least i ≡ v = ap (λ z. length (below z roots)) q ∙ root_place (is_root least) 0 n v m in
          sym e ∙ eq-eqb (ordinal n least i) v r

  -- the numbers of all places
  module _ (of : List ℕ) (is : of ≡ map (ordinal n least) (range_with_len 0 n)) where
    pub number_at : (i d : ℕ) → i < n → get_or of i d ≡ ordinal n least i
    number_at i d l = ap (λ z. get_or z i d) is ∙ get_or-map-range_with_len (ordinal n least) 0 n i i d l (omega arith)

    pub numbers_count : length of ≡ n
    numbers_count = ap length is ∙ length-map (range_with_len 0 n) (ordinal n least) ∙ length-range_with_len 0 n

    renamed_all : (vs : List ℕ) → AreBelow n vs → map (λ i. get_or of i 0) vs ≡ map (ordinal n least) vs
    renamed_all [] a = refl
    renamed_all (v ∷ vs) a = ap (λ z. z ∷ map (λ i. get_or of i 0) vs) (number_at v 0 a.0) ∙ ap (λ z. ordinal n least v ∷ z) (renamed_all vs a.1)

    renamed_one : (b : By) → AreBelow n (used b) → renamed (λ i. get_or of i 0) b ≡ renamed (ordinal n least) b
    renamed_one (by.Concat vs) a = ap by.Concat (renamed_all vs a)
    renamed_one (by.First p u v) a = ap (by.First p u) (number_at v 0 a.0)
    renamed_one (by.All p u v) a = ap (by.All p u) (number_at v 0 a.0)
    renamed_one (by.Through t v) a = ap (by.Through t) (number_at v 0 a.0)

    pub definitions_are : (ds : List (ℕ × By)) → AreDefinitionsBelow n ds → map (definition_by (λ i. get_or of i 0)) ds ≡ map (definition_by (ordinal n least)) ds
    definitions_are [] a = refl
    definitions_are (d ∷ ds) a =
        ap (λ z. z ∷ map (definition_by (λ i. get_or of i 0)) ds) (ap (λ z. record { variable = z; by = renamed (λ i. get_or of i 0) d.1 }) (number_at d.0 0 a.0.0) ∙ ap (λ z. record { variable = ordinal n least d.0; by = z }) (renamed_one d.1 a.0.1))
        ∙ ap (λ z. definition_by (ordinal n least) d ∷ z) (definitions_are ds a.1)

    all_within : (vs : List ℕ) → AreBelow n vs → AreBelow (length roots) (map (ordinal n least) vs)
    all_within [] a = tt
    all_within (v ∷ vs) a = (ordinal_within v a.0, all_within vs a.1)

    uses_within : (b : By) → AreBelow n (used b) → AreBelow (length roots) (used (renamed (ordinal n least) b))
    uses_within (by.Concat vs) a = all_within vs a
    uses_within (by.First p u v) a = (ordinal_within v a.0, tt)
    uses_within (by.All p u v) a = (ordinal_within v a.0, tt)
    uses_within (by.Through t v) a = (ordinal_within v a.0, tt)

    pub definitions_within : (ds : List (ℕ × By)) → AreDefinitionsBelow n ds → HaveVariablesBelow (length roots) (map (definition_by (ordinal n least)) ds)
    definitions_within [] a = tt
    definitions_within (d ∷ ds) a = (record { defined = ordinal_within d.0 a.0.0; uses = uses_within d.1 a.0.1 }, definitions_within ds a.1)
