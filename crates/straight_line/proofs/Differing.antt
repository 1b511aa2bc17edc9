-- Lists of names none of which stands twice, and the names of variables among them.
use Rattle.std.proofs.Common.{◌≡◌, refl, sym, ap, ◌∙◌, Bool, true, false, ℕ, zero, suc, ◌+◌, ◌≤◌, List, [], ◌∷◌, ◌++◌, Option, Some, None, cond, arith}
use Rattle.std.specs.Prelude.{filter, nat_eq}
use Rattle.std.specs.Cmp.Lexicographic.{pointwise, same_text}
use Rattle.std.specs.List.{AllByRecursion, IsDistinct, list_any}
use Rattle.std.proofs.lemmas.Bool.{eqb-true, false≢true, or_parts}
use Rattle.std.proofs.lemmas.Map.Keys.{IsDistinct-cons}
use Rattle.sv_list.specs.Lists.{AllByRecursion-push, AllByRecursion-append, AllByRecursion-filter}
use Rattle.literal_forms.specs.Shapes.{Shape}
use Rattle.flat_cubes.specs.Flattening.{name_of, names_at, with_name}
use Rattle.straight_line.proofs.Ordinals.{passing}
use Rattle.straight_line.proofs.Saying.{text_self}

-- it is none of these
abbrev pub IsNone : {X : Type 0} → X → List X → Type 0
IsNone x ys = AllByRecursion (λ y. x ≡ y → ⊥) ys

abbrev pub Differ : {X : Type 0} → List X → Type 0
Differ [] = Unit {0}
Differ (x ∷ xs) = IsNone x xs × Differ xs

-- no name of one list is one of the other
abbrev pub Cross : {X : Type 0} → List X → List X → Type 0
Cross xs ys = AllByRecursion (λ x. IsNone x ys) xs

pub differ_push : {X : Type 0} (xs : List X) (y : X) → Differ xs → IsNone y xs → Differ (xs ++ y ∷ [])
differ_push [] y d a = (tt, tt)
differ_push (x ∷ xs) y d a = (AllByRecursion-push (λ z. x ≡ z → ⊥) xs y d.0 (λ e. a.0 (sym e)), differ_push xs y d.1 a.1)

pub differ_join : {X : Type 0} (xs ys : List X) → Differ xs → Differ ys → Cross xs ys → Differ (xs ++ ys)
differ_join [] ys d e c = e
differ_join (x ∷ xs) ys d e c = (AllByRecursion-append (λ z. x ≡ z → ⊥) xs ys d.0 c.0, differ_join xs ys d.1 e c.1)

pub cross_join : {X : Type 0} (xs ys zs : List X) → Cross xs ys → Cross xs zs → Cross xs (ys ++ zs)
cross_join [] ys zs a b = tt
cross_join (x ∷ xs) ys zs a b = (AllByRecursion-append (λ z. x ≡ z → ⊥) ys zs a.0 b.0, cross_join xs ys zs a.1 b.1)

cross_none : {X : Type 0} (xs : List X) → Cross xs []
cross_none [] = tt
cross_none (x ∷ xs) = (tt, cross_none xs)

cross_cons : {X : Type 0} (xs ys : List X) (y : X) → IsNone y xs → Cross xs ys → Cross xs (y ∷ ys)
cross_cons [] ys y a c = tt
cross_cons (x ∷ xs) ys y a c = ((λ e. a.0 (sym e), c.0), cross_cons xs ys y a.1 c.1)

-- a function tells them apart
none_by : {X Y : Type 0} (f : X → Y) (a b : Y) → (a ≡ b → ⊥) → (x : X) → f x ≡ a → (ys : List X) → AllByRecursion (λ y. f y ≡ b) ys → IsNone x ys
none_by f a b n x e [] q = tt
none_by f a b n x e (y ∷ ys) q = (λ g. n (sym e ∙ ap f g ∙ q.0), none_by f a b n x e ys q.1)

pub cross_by : {X Y : Type 0} (f : X → Y) (a b : Y) → (a ≡ b → ⊥) → (xs ys : List X) → AllByRecursion (λ x. f x ≡ a) xs → AllByRecursion (λ y. f y ≡ b) ys → Cross xs ys
cross_by f a b n [] ys p q = tt
cross_by f a b n (x ∷ xs) ys p q = (none_by f a b n x p.0 ys q, cross_by f a b n xs ys p.1 q)

pub filter_differ : {X : Type 0} (p : X → Bool) (xs : List X) → Differ xs → Differ (filter p xs)
filter_differ p [] d = tt
filter_differ p (x ∷ xs) d = by_test (p x) (filter_differ p xs d.1)
  where
    by_test : (b : Bool) → Differ (filter p xs) → Differ (cond b (x ∷ filter p xs) (filter p xs))
    by_test true h = (AllByRecursion-filter (λ z. x ≡ z → ⊥) p xs d.0, h)
    by_test false h = h

-- the tests by which names are looked for
pub none_found : (n : List ℕ) (ns : List (List ℕ)) → list_any (pointwise nat_eq n) ns ≡ false → IsNone n ns
none_found n [] e = tt
none_found n (m ∷ ns) e =
    let h = or_parts (pointwise nat_eq n m) (list_any (pointwise nat_eq n) ns) e in
    (λ q. false≢true (sym h.0 ∙ ap (pointwise nat_eq n) (sym q) ∙ text_self n), none_found n ns h.1)

not_same : (n m : List ℕ) → (n ≡ m → ⊥) → pointwise nat_eq n m ≡ false
not_same n m f = by_test (pointwise nat_eq n m) refl
  where
    by_test : (b : Bool) → pointwise nat_eq n m ≡ b → b ≡ false
    by_test true e = absurd (f (same_text n m (sym e)))
    by_test false e = refl

all_other : (n : List ℕ) (ns : List (List ℕ)) → IsNone n ns → AllByRecursion (λ m. pointwise nat_eq n m ≡ false) ns
all_other n [] a = tt
all_other n (m ∷ ns) a = (not_same n m a.0, all_other n ns a.1)

nothing_distinct : IsDistinct (pointwise nat_eq) []
unfolding IsDistinct
nothing_distinct = tt

pub names_distinct : (ns : List (List ℕ)) → Differ ns → IsDistinct (pointwise nat_eq) ns
names_distinct [] d = nothing_distinct
names_distinct (n ∷ ns) d = IsDistinct-cons (pointwise nat_eq) n ns (all_other n ns d.0) (names_distinct ns d.1)

-- the names of the constants among terms
abbrev pub one_name : Option (List ℕ) → List (List ℕ) → List (List ℕ)
one_name None ns = ns
one_name (Some n) ns = n ∷ ns

abbrev pub names_in : List Shape → List (List ℕ)
names_in [] = []
names_in (t ∷ ts) = one_name (name_of t) (names_in ts)

one_before : (o : Option (List ℕ)) (xs ys : List (List ℕ)) → one_name o (xs ++ ys) ≡ one_name o xs ++ ys
one_before None xs ys = refl
one_before (Some n) xs ys = refl

pub names_push : (ts : List Shape) (t : Shape) → names_in (ts ++ t ∷ []) ≡ names_in ts ++ one_name (name_of t) []
names_push [] t = refl
names_push (x ∷ ts) t = ap (one_name (name_of x)) (names_push ts t) ∙ one_before (name_of x) (names_in ts) (one_name (name_of t) [])

-- those whose least place is r
within_one : (P : List ℕ → Type 0) (b : Bool) (o : Option (List ℕ)) (ns xs : List (List ℕ)) → (AllByRecursion P ns → AllByRecursion P xs) → AllByRecursion P (one_name o ns) → AllByRecursion P (with_name b o xs)
within_one P true None ns xs g h = g h
within_one P false None ns xs g h = g h
within_one P true (Some n) ns xs g h = (h.0, g h.1)
within_one P false (Some n) ns xs g h = g h.1

pub names_within : (P : List ℕ → Type 0) (ts : List Shape) (fs : List ℕ) (r : ℕ) → AllByRecursion P (names_in ts) → AllByRecursion P (names_at ts fs r)
names_within P [] fs r h = tt
names_within P (t ∷ ts) [] r h = tt
names_within P (t ∷ ts) (f ∷ fs) r h = within_one P (nat_eq f r) (name_of t) (names_in ts) (names_at ts fs r) (names_within P ts fs r) h

differ_one : (b : Bool) (o : Option (List ℕ)) (ns xs : List (List ℕ)) → ((P : List ℕ → Type 0) → AllByRecursion P ns → AllByRecursion P xs) → (Differ ns → Differ xs) → Differ (one_name o ns) → Differ (with_name b o xs)
differ_one true None ns xs f g h = g h
differ_one false None ns xs f g h = g h
differ_one true (Some n) ns xs f g h = (f (λ m. n ≡ m → ⊥) h.0, g h.1)
differ_one false (Some n) ns xs f g h = g h.1

names_differ : (ts : List Shape) (fs : List ℕ) (r : ℕ) → Differ (names_in ts) → Differ (names_at ts fs r)
names_differ [] fs r d = tt
names_differ (t ∷ ts) [] r d = tt
names_differ (t ∷ ts) (f ∷ fs) r d = differ_one (nat_eq f r) (name_of t) (names_in ts) (names_at ts fs r) (λ P. names_within P ts fs r) (names_differ ts fs r) d

cross_one : (b c : Bool) (o : Option (List ℕ)) (ns xs ys : List (List ℕ)) → (b ≡ true → c ≡ true → ⊥) → ((P : List ℕ → Type 0) → AllByRecursion P ns → AllByRecursion P xs) → ((P : List ℕ → Type 0) → AllByRecursion P ns → AllByRecursion P ys) → (Differ ns → Cross xs ys) → Differ (one_name o ns) → Cross (with_name b o xs) (with_name c o ys)
cross_one true true o ns xs ys n f g k d = absurd (n refl refl)
cross_one true false None ns xs ys n f g k d = k d
cross_one false true None ns xs ys n f g k d = k d
cross_one false false None ns xs ys n f g k d = k d
cross_one true false (Some m) ns xs ys n f g k d = (g (λ z. m ≡ z → ⊥) d.0, k d.1)
cross_one false true (Some m) ns xs ys n f g k d = cross_cons xs ys m (f (λ z. m ≡ z → ⊥) d.0) (k d.1)
cross_one false false (Some m) ns xs ys n f g k d = k d.1

names_cross : (ts : List Shape) (fs : List ℕ) (r q : ℕ) → (r ≡ q → ⊥) → Differ (names_in ts) → Cross (names_at ts fs r) (names_at ts fs q)
names_cross [] fs r q n d = tt
names_cross (t ∷ ts) [] r q n d = tt
names_cross (t ∷ ts) (f ∷ fs) r q n d =
    cross_one (nat_eq f r) (nat_eq f q) (name_of t) (names_in ts) (names_at ts fs r) (names_at ts fs q) (λ a b. n (sym (eqb-true f r a) ∙ eqb-true f q b)) (λ P. names_within P ts fs r) (λ P. names_within P ts fs q) (names_cross ts fs r q n) d

-- the names of one root after another
abbrev pub names_of_all : List Shape → List ℕ → List ℕ → List (List ℕ)
names_of_all ts fs [] = []
names_of_all ts fs (r ∷ rs) = names_at ts fs r ++ names_of_all ts fs rs

module _ (ts : List Shape) (fs : List ℕ) where
  pub all_within : (P : List ℕ → Type 0) (rs : List ℕ) → AllByRecursion P (names_in ts) → AllByRecursion P (names_of_all ts fs rs)
  all_within P [] h = tt
  all_within P (r ∷ rs) h = AllByRecursion-append P (names_at ts fs r) (names_of_all ts fs rs) (names_within P ts fs r h) (all_within P rs h)

  cross_rest : (r : ℕ) (rs : List ℕ) → IsNone r rs → Differ (names_in ts) → Cross (names_at ts fs r) (names_of_all ts fs rs)
  cross_rest r [] n d = cross_none (names_at ts fs r)
  cross_rest r (q ∷ rs) n d = cross_join (names_at ts fs r) (names_at ts fs q) (names_of_all ts fs rs) (names_cross ts fs r q n.0 d) (cross_rest r rs n.1 d)

  pub all_differ : (rs : List ℕ) → Differ rs → Differ (names_in ts) → Differ (names_of_all ts fs rs)
  all_differ [] n d = tt
  all_differ (r ∷ rs) n d = differ_join (names_at ts fs r) (names_of_all ts fs rs) (names_differ ts fs r d) (all_differ rs n.1 d) (cross_rest r rs n.0 d)

-- ascending numbers differ
pub range_differ : (p : ℕ → Bool) (k m : ℕ) → Differ (passing p k m) × AllByRecursion (λ q. k ≤ q) (passing p k m)
range_differ p k zero = (tt, tt)
range_differ p k (suc m) = by_test (p k) (range_differ p (k + 1) m)
  where
    above : (xs : List ℕ) → AllByRecursion (λ q. k + 1 ≤ q) xs → IsNone k xs × AllByRecursion (λ q. k ≤ q) xs
    above [] a = (tt, tt)
    above (x ∷ xs) a = let l = a.0 in let r = above xs a.1 in ((λ e. absurd (omega arith), r.0), (omega arith, r.1))

    by_test : (b : Bool) → Differ (passing p (k + 1) m) × AllByRecursion (λ q. k + 1 ≤ q) (passing p (k + 1) m) → Differ (cond b (k ∷ passing p (k + 1) m) (passing p (k + 1) m)) × AllByRecursion (λ q. k ≤ q) (cond b (k ∷ passing p (k + 1) m) (passing p (k + 1) m))
    by_test true h = let r = above (passing p (k + 1) m) h.1 in ((r.0, h.0), (omega arith, r.1))
    by_test false h = (h.0, (above (passing p (k + 1) m) h.1).1)
