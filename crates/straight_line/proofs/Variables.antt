-- Variables with what was met at their places are those of the roots.
use Rattle.std.proofs.Common.{◌≡◌, refl, sym, ap, ◌∙◌, subst, ℕ, zero, suc, ◌<◌, inl, inr, Bool, true, false, List, [], ◌∷◌, ◌++◌, map, length, get_or, replicate, append_assoc, Option, Some, None, cond, arith, append-nil, ext_get_or}
use Rattle.std.specs.Prelude.{filter, nat_eq}
use Rattle.std.specs.List.{range_with_len}
use Rattle.std.proofs.lemmas.Bool.{eq-eqb, eqb-true}
use Rattle.std.proofs.lemmas.List.{get_or_default, get_or-replicate, length-map, length-replicate, length-set}
use Rattle.straight_line.specs.Filling.{AreNumbersBelow, ArePartsBelow, free_variable, named, named_all, names_from, parted, parted_all, parts_from, variable_from}
use Rattle.flat_cubes.specs.Flattening.{with_name}
use Rattle.straight_line.specs.Leading.{ArePairsBelow, ordinal}
use Rattle.flat_cubes.specs.declared.variable.Own.{Own}
use Rattle.flat_cubes.specs.declared.variable.Variable.{Variable}
use Rattle.straight_line.proofs.Linked.{least, least_count, number_at, numbers_count, ordinal_within, roots, same_root}
use Rattle.straight_line.proofs.Sorted.{at_set}

map_at : {Y : Type 0} (f : ℕ → Y) (xs : List ℕ) (k : ℕ) (d : Y) → k < length xs → get_or (map f xs) k d ≡ f (get_or xs k 0)
map_at f [] k d l = absurd (omega arith)
map_at f (x ∷ xs) zero d l = refl
map_at f (x ∷ xs) (suc k) d l = map_at f xs k d (omega arith)

named_length : (u : ℕ) (n : Option (List ℕ)) (vs : List Variable) → length (named u n vs) ≡ length vs
named_length u None vs = refl
named_length u (Some n) vs = length-set vs u _

named_all_length : (of : List ℕ) (ns : List (Option (List ℕ))) (vs : List Variable) → length (named_all of ns vs) ≡ length vs
named_all_length of [] vs = refl
named_all_length [] (n ∷ ns) vs = refl
named_all_length (u ∷ of) (n ∷ ns) vs = named_all_length of ns (named u n vs) ∙ named_length u n vs

-- a variable with more names
abbrev with_names : Variable → List (List ℕ) → Variable
with_names v ns = record { names = v.names ++ ns; parts = v.parts }

no_names : (v : Variable) → v ≡ with_names v []
no_names v = ap (λ ns. record { names = ns; parts = v.parts }) (sym (append-nil v.names))

named_at : (u v : ℕ) (n : Option (List ℕ)) (rest : List (List ℕ)) (vs : List Variable) → u < length vs → with_names (get_or (named u n vs) v free_variable) rest ≡ with_names (get_or vs v free_variable) (with_name (nat_eq u v) n rest)
named_at u v None rest vs l = ap (with_names (get_or vs v free_variable)) (same (nat_eq u v))
  where
    same : (b : Bool) → rest ≡ with_name b None rest
    same true = refl
    same false = refl
named_at u v (Some n) rest vs l = elim (at_set vs u v (with_names (get_or vs u free_variable) (n ∷ [])) free_variable l) [
  | inl e ↦
      ap (λ z. with_names z rest) (e.1 ∙ ap (λ z. with_names (get_or vs z free_variable) (n ∷ [])) (sym e.0))
      ∙ ap (λ z. record { names = z; parts = (get_or vs v free_variable).parts }) (append_assoc (get_or vs v free_variable).names (n ∷ []) rest)
      ∙ ap (λ b. with_names (get_or vs v free_variable) (with_name b (Some n) rest)) (sym (eq-eqb u v (sym e.0)))
  | inr e ↦ ap (λ z. with_names z rest) e.1 ∙ ap (λ b. with_names (get_or vs v free_variable) (with_name b (Some n) rest)) (sym (not_same u v e.0))
]
  where
    not_same : (u v : ℕ) → (v ≡ u → ⊥) → nat_eq u v ≡ false
    not_same u v n = by_test (nat_eq u v) refl
      where
        by_test : (b : Bool) → nat_eq u v ≡ b → b ≡ false
        by_test true e = absurd (n (sym (eqb-true u v e)))
        by_test false e = refl

named_all_at : (of : List ℕ) (ns : List (Option (List ℕ))) (vs : List Variable) (v : ℕ) → AreNumbersBelow (length vs) of → get_or (named_all of ns vs) v free_variable ≡ with_names (get_or vs v free_variable) (names_from ns of v)
named_all_at of [] vs v b = no_names (get_or vs v free_variable)
named_all_at [] (n ∷ ns) vs v b = no_names (get_or vs v free_variable)
named_all_at (u ∷ of) (n ∷ ns) vs v b =
    named_all_at of ns (named u n vs) v (λ i l. subst (λ m. get_or of i 0 < m) (sym (named_length u n vs)) (b (suc i) (omega arith)))
    ∙ named_at u v n (names_from ns of v) vs (b 0 (omega arith))

-- a variable with more parts
abbrev with_parts : Variable → List (Own × Bool) → Variable
with_parts v ps = record { names = v.names; parts = v.parts ++ ps }

no_parts : (v : Variable) → v ≡ with_parts v []
no_parts v = ap (λ ps. record { names = v.names; parts = ps }) (sym (append-nil v.parts))

abbrev of_one : Bool → ℕ × (Own × Bool) → List (ℕ × (Own × Bool)) → List (Own × Bool)
of_one b p ps = map (λ (q : ℕ × (Own × Bool)). q.1) (cond b (p ∷ ps) ps)

parted_at : (u v : ℕ) (p : ℕ × (Own × Bool)) (rest : List (ℕ × (Own × Bool))) (vs : List Variable) → u < length vs → with_parts (get_or (parted u p.1 vs) v free_variable) (map (λ (q : ℕ × (Own × Bool)). q.1) rest) ≡ with_parts (get_or vs v free_variable) (of_one (nat_eq u v) p rest)
parted_at u v p rest vs l = elim (at_set vs u v (with_parts (get_or vs u free_variable) (p.1 ∷ [])) free_variable l) [
  | inl e ↦
      ap (λ z. with_parts z (map (λ (q : ℕ × (Own × Bool)). q.1) rest)) (e.1 ∙ ap (λ z. with_parts (get_or vs z free_variable) (p.1 ∷ [])) (sym e.0))
      ∙ ap (λ z. record { names = (get_or vs v free_variable).names; parts = z }) (append_assoc (get_or vs v free_variable).parts (p.1 ∷ []) (map (λ (q : ℕ × (Own × Bool)). q.1) rest))
      ∙ ap (λ b. with_parts (get_or vs v free_variable) (of_one b p rest)) (sym (eq-eqb u v (sym e.0)))
  | inr e ↦ ap (λ z. with_parts z (map (λ (q : ℕ × (Own × Bool)). q.1) rest)) e.1 ∙ ap (λ b. with_parts (get_or vs v free_variable) (of_one b p rest)) (sym (not_same u v e.0))
]
  where
    not_same : (u v : ℕ) → (v ≡ u → ⊥) → nat_eq u v ≡ false
    not_same u v n = by_test (nat_eq u v) refl
      where
        by_test : (b : Bool) → nat_eq u v ≡ b → b ≡ false
        by_test true e = absurd (n (sym (eqb-true u v e)))
        by_test false e = refl

parted_all_at : (of : List ℕ) (ps : List (ℕ × (Own × Bool))) (vs : List Variable) (v : ℕ) → AreNumbersBelow (length vs) of → ArePartsBelow (length of) ps → get_or (parted_all of ps vs) v free_variable ≡ with_parts (get_or vs v free_variable) (parts_from ps of v)
parted_all_at of [] vs v b a = no_parts (get_or vs v free_variable)
parted_all_at of (p ∷ ps) vs v b a =
    parted_all_at of ps (parted (get_or of p.0 0) p.1 vs) v (λ i l. subst (λ m. get_or of i 0 < m) (sym (length-set vs (get_or of p.0 0) _)) (b i l)) a.1
    ∙ parted_at (get_or of p.0 0) v p (filter (λ (q : ℕ × (Own × Bool)). nat_eq (get_or of q.0 q.0) v) ps) vs (b p.0 a.0)
    ∙ ap (λ z. with_parts (get_or vs v free_variable) (of_one (nat_eq z v) p (filter (λ (q : ℕ × (Own × Bool)). nat_eq (get_or of q.0 q.0) v) ps))) (get_or_default of p.0 0 p.0 a.0)

parted_all_length : (of : List ℕ) (ps : List (ℕ × (Own × Bool))) (vs : List Variable) → length (parted_all of ps vs) ≡ length vs
parted_all_length of [] vs = refl
parted_all_length of (p ∷ ps) vs = parted_all_length of ps (parted (get_or of p.0 0) p.1 vs) ∙ length-set vs (get_or of p.0 0) _

-- the same names and parts by other numbers of places
names_same : (ns : List (Option (List ℕ))) (of fs : List ℕ) (v r : ℕ) → length of ≡ length fs → ((i : ℕ) → i < length of → nat_eq (get_or of i 0) v ≡ nat_eq (get_or fs i 0) r) → names_from ns of v ≡ names_from ns fs r
names_same [] of fs v r e h = refl
names_same (n ∷ ns) [] [] v r e h = refl
names_same (n ∷ ns) [] (f ∷ fs) v r e h = absurd (omega arith)
names_same (n ∷ ns) (u ∷ of) [] v r e h = absurd (omega arith)
names_same (n ∷ ns) (u ∷ of) (f ∷ fs) v r e h = ap (λ b. with_name b n (names_from ns of v)) (h 0 (omega arith)) ∙ ap (with_name (nat_eq f r) n) (names_same ns of fs v r (omega arith) (λ i l. h (suc i) (omega arith)))

parts_same : (ps : List (ℕ × (Own × Bool))) (of fs : List ℕ) (v r n : ℕ) → ArePartsBelow n ps → ((i : ℕ) → i < n → nat_eq (get_or of i i) v ≡ nat_eq (get_or fs i i) r) → parts_from ps of v ≡ parts_from ps fs r
parts_same [] of fs v r n a h = refl
parts_same (p ∷ ps) of fs v r n a h = by_test (nat_eq (get_or of p.0 p.0) v) (nat_eq (get_or fs p.0 p.0) r) (h p.0 a.0) (parts_same ps of fs v r n a.1 h)
  where
    by_test : (b c : Bool) → b ≡ c → parts_from ps of v ≡ parts_from ps fs r → of_one b p (filter (λ (q : ℕ × (Own × Bool)). nat_eq (get_or of q.0 q.0) v) ps) ≡ of_one c p (filter (λ (q : ℕ × (Own × Bool)). nat_eq (get_or fs q.0 q.0) r) ps)
    by_test true true e h = ap (λ z. p.1 ∷ z) h
    by_test false false e h = h
    by_test true false e h = absurd (cc)
    by_test false true e h = absurd (cc)

module _ (n : ℕ) (es : List (ℕ × ℕ)) (w : ArePairsBelow n es) (of : List ℕ) (is : of ≡ map (ordinal n (least n es w)) (range_with_len 0 n)) (ns : List (Option (List ℕ))) (ps : List (ℕ × (Own × Bool))) (parts : ArePartsBelow n ps) where
  abbrev count : ℕ
  count = length (roots n es w)

  pub numbers_below : AreNumbersBelow count of
  numbers_below i l =
      let m : i < n = let e = numbers_count n es w of is in omega arith in
      subst (λ z. z < count) (sym (number_at n es w of is i 0 m)) (ordinal_within n es w i m)

  pub variables_are : parted_all of ps (named_all of ns (replicate (length (roots n es w)) free_variable)) ≡ map (variable_from ns ps (least n es w)) (roots n es w)
  variables_are =
      let free_length : length (replicate count free_variable) ≡ count = length-replicate count free_variable in
      let below : AreNumbersBelow (length (replicate count free_variable)) of = λ i l. subst (λ z. get_or of i 0 < z) (sym free_length) (numbers_below i l) in
      let long = named_all_length of ns (replicate count free_variable) in
      let below' : AreNumbersBelow (length (named_all of ns (replicate count free_variable))) of = λ i l. subst (λ z. get_or of i 0 < z) (sym long) (below i l) in
      let parts' : ArePartsBelow (length of) ps = subst (λ z. ArePartsBelow z ps) (sym (numbers_count n es w of is)) parts in
      let all : length (parted_all of ps (named_all of ns (replicate count free_variable))) ≡ count = parted_all_length of ps (named_all of ns (replicate count free_variable)) ∙ long ∙ free_length in
      ext_get_or free_variable (parted_all of ps (named_all of ns (replicate count free_variable))) (map (variable_from ns ps (least n es w)) (roots n es w)) (all ∙ sym (length-map (roots n es w) (variable_from ns ps (least n es w)))) (λ v l.
      let m : v < count = subst (λ z. v < z) all l in
      parted_all_at of ps (named_all of ns (replicate count free_variable)) v below' parts'
      ∙ ap (λ z. with_parts z (parts_from ps of v)) (named_all_at of ns (replicate count free_variable) v below ∙ ap (λ z. with_names z (names_from ns of v)) (get_or-replicate count v free_variable free_variable m))
      ∙ ap (λ z. record { names = z; parts = parts_from ps of v }) (names_same ns of (least n es w) v (get_or (roots n es w) v 0) (numbers_count n es w of is ∙ sym (least_count n es w)) (λ i h.
      let k : i < n = let e = numbers_count n es w of is in omega arith in
      ap (λ z. nat_eq z v) (number_at n es w of is i 0 k) ∙ same_root n es w i v k m ∙ ap (λ z. nat_eq z (get_or (roots n es w) v 0)) (get_or_default (least n es w) i i 0 (let q = least_count n es w in omega arith))))
      ∙ ap (λ z. record { names = names_from ns (least n es w) (get_or (roots n es w) v 0); parts = z }) (parts_same ps of (least n es w) v (get_or (roots n es w) v 0) n parts (λ i k. ap (λ z. nat_eq z v) (number_at n es w of is i i k) ∙ same_root n es w i v k m))
      ∙ sym (map_at (variable_from ns ps (least n es w)) (roots n es w) v free_variable m))
