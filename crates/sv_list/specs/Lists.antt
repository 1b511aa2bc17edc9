-- Laws of lists that the standard library doesn't state: some element has a fact, each element has one, lists that grow at their end, what stands at a place.
use Rattle.std.proofs.Common.{◌≡◌, ◌↔◌, ℕ, zero, suc, ◌<◌, ◌≤◌, ◌+◌, ◌-◌, ◌||◌, ◌⊎◌, Bool, true, false, cond, nat_eq, List, [], ◌∷◌, ◌++◌, length, map, filter, take, drop, replicate, slice_get, slice_set, get_or, Option, Some, None, Result, Ok, Err, OnOk, IfOk, All, Any, Contains, arith, refl, sym, ap, ◌∙◌, subst, inl, inr, append_assoc, append-nil, length-append, length-take, length-drop, get_or-take, get_or-drop}
use Rattle.std.specs.List.{AllByRecursion, AllZip, count_by, list_any}
use Rattle.std.specs.List.Sorted.{IsPartitionPoint}
use Rattle.std.proofs.lemmas.Bool.{cases_lt}
use Rattle.std.proofs.lemmas.Bool.Decides.{nat_tests}
use Rattle.std.proofs.lemmas.List.{take_more}
use Rattle.std.proofs.lemmas.List.Elements.{All-head, All-tail}
use Rattle.std.proofs.lemmas.List.Sums.{sum_by-cons}
use Rattle.std.proofs.lemmas.Option.{get_or_from_slice_get, same_Some}

module _ {X : Type 0} (P : X → Type 0) where
  pub Any-none : Any P [] → ⊥
  Any-none (k, y, lt, e, p) = absurd (omega arith)

  pub Any-here : (x : X) (xs : List X) → P x → Any P (x ∷ xs)
  Any-here x xs p = (zero, x, omega arith, refl, p)

  pub Any-there : (x : X) (xs : List X) → Any P xs → Any P (x ∷ xs)
  Any-there x xs (k, y, lt, e, p) = (suc k, y, omega arith, e, p)

  pub Any-cases : (x : X) (xs : List X) → Any P (x ∷ xs) → P x ⊎ Any P xs
  Any-cases x xs (zero, y, lt, e, p) = inl (subst P (sym e) p)
  Any-cases x xs (suc k, y, lt, e, p) = inr (k, y, omega arith, e, p)

  pub Any-append_left : (xs ys : List X) → Any P xs → Any P (xs ++ ys)
  Any-append_left [] ys a = absurd (Any-none a)
  Any-append_left (x ∷ xs) ys a = elim (Any-cases x xs a) [
    | inl h ↦ Any-here x (xs ++ ys) h
    | inr h ↦ Any-there x (xs ++ ys) (Any-append_left xs ys h)
  ]

  pub Any-append_right : (xs ys : List X) → Any P ys → Any P (xs ++ ys)
  Any-append_right [] ys a = a
  Any-append_right (x ∷ xs) ys a = Any-there x (xs ++ ys) (Any-append_right xs ys a)

  pub Any-append_cases : (xs ys : List X) → Any P (xs ++ ys) → Any P xs ⊎ Any P ys
  Any-append_cases [] ys a = inr a
  Any-append_cases (x ∷ xs) ys a = elim (Any-cases x (xs ++ ys) a) [
    | inl h ↦ inl (Any-here x xs h)
    | inr h ↦ elim (Any-append_cases xs ys h) [ inl l ↦ inl (Any-there x xs l) | inr r ↦ inr r ]
  ]

  pub Any-push_cases : (xs : List X) (y : X) → Any P (xs ++ y ∷ []) → Any P xs ⊎ P y
  Any-push_cases xs y a = elim (Any-append_cases xs (y ∷ []) a) [
    | inl h ↦ inl h
    | inr h ↦ elim (Any-cases y [] h) [ inl p ↦ inr p | inr none ↦ absurd (Any-none none) ]
  ]

  pub Any-contains : (xs : List X) (x : X) → Contains xs x → P x → Any P xs
  Any-contains xs x (k, lt, e) p = (k, x, lt, e, p)

  pub contained : (xs : List X) → Any P xs → (x : X) × Contains xs x × P x
  contained xs (k, x, lt, e, p) = (x, (k, lt, e), p)

pub Any-weaker : {X : Type 0} (P Q : X → Type 0) → ((x : X) → P x → Q x) → (xs : List X) → Any P xs → Any Q xs
Any-weaker P Q h xs (k, x, lt, e, p) = (k, x, lt, e, h x p)

module _ {X Y : Type 0} (f : X → Y) (P : Y → Type 0) where
  pub Any-map : (xs : List X) → Any (λ x. P (f x)) xs → Any P (map f xs)
  Any-map [] a = absurd (Any-none (λ x. P (f x)) a)
  Any-map (x ∷ xs) a = elim (Any-cases (λ x. P (f x)) x xs a) [
    | inl h ↦ Any-here P (f x) (map f xs) h
    | inr h ↦ Any-there P (f x) (map f xs) (Any-map xs h)
  ]

  pub Any-from_map : (xs : List X) → Any P (map f xs) → Any (λ x. P (f x)) xs
  Any-from_map [] a = absurd (Any-none P a)
  Any-from_map (x ∷ xs) a = elim (Any-cases P (f x) (map f xs) a) [
    | inl h ↦ Any-here (λ x. P (f x)) x xs h
    | inr h ↦ Any-there (λ x. P (f x)) x xs (Any-from_map xs h)
  ]

pub Contains-here : {X : Type 0} (x : X) (xs : List X) → Contains (x ∷ xs) x
Contains-here x xs = (zero, omega arith, refl)

pub Contains-there : {X : Type 0} (x : X) (xs : List X) (y : X) → Contains xs y → Contains (x ∷ xs) y
Contains-there x xs y (k, lt, e) = (suc k, omega arith, e)

pub Contains-none : {X : Type 0} (x : X) → Contains [] x → ⊥
Contains-none x (k, lt, e) = absurd (omega arith)

pub Contains-cases : {X : Type 0} (x : X) (xs : List X) (y : X) → Contains (x ∷ xs) y → (x ≡ y) ⊎ Contains xs y
Contains-cases x xs y (zero, lt, e) = inl e
Contains-cases x xs y (suc k, lt, e) = inr (k, omega arith, e)

module _ {X Y : Type 0} (f : X → Y) where
  pub Contains-map : (xs : List X) (x : X) → Contains xs x → Contains (map f xs) (f x)
  Contains-map [] x h = absurd (Contains-none x h)
  Contains-map (z ∷ zs) x h = elim (Contains-cases z zs x h) [
    | inl e ↦ subst (Contains (f z ∷ map f zs)) (ap f e) (Contains-here (f z) (map f zs))
    | inr i ↦ Contains-there (f z) (map f zs) (f x) (Contains-map zs x i)
  ]

  pub Contains-from_map : (xs : List X) (y : Y) → Contains (map f xs) y → (x : X) × Contains xs x × (f x ≡ y)
  Contains-from_map [] y h = absurd (Contains-none y h)
  Contains-from_map (x ∷ xs) y h = elim (Contains-cases (f x) (map f xs) y h) [
    | inl e ↦ (x, Contains-here x xs, e)
    | inr i ↦ let r = Contains-from_map xs y i in (r.0, Contains-there x xs r.0 r.1, r.2)
  ]

pub slice_get-append : {X : Type 0} (xs ys : List X) (n : ℕ) (x : X) → slice_get xs n ≡ Some x → slice_get (xs ++ ys) n ≡ Some x
slice_get-append [] ys n x e = cc
slice_get-append (z ∷ zs) ys zero x e = e
slice_get-append (z ∷ zs) ys (suc n) x e = slice_get-append zs ys n x e

pub slice_get-end : {X : Type 0} (xs : List X) (y : X) → slice_get (xs ++ y ∷ []) (length xs) ≡ Some y
slice_get-end [] y = refl
slice_get-end (x ∷ xs) y = slice_get-end xs y

pub slice_get-push_cases : {X : Type 0} (xs : List X) (y : X) (n : ℕ) (x : X) → slice_get (xs ++ y ∷ []) n ≡ Some x
    → (slice_get xs n ≡ Some x) ⊎ ((n ≡ length xs) × (y ≡ x))
slice_get-push_cases [] y zero x e = inr (refl, cc)
slice_get-push_cases [] y (suc n) x e = cc
slice_get-push_cases (z ∷ zs) y zero x e = inl e
slice_get-push_cases (z ∷ zs) y (suc n) x e = elim (slice_get-push_cases zs y n x e) [ inl h ↦ inl h | inr h ↦ inr (ap suc h.0, h.1) ]

pub slice_get-contains : {X : Type 0} (xs : List X) (n : ℕ) (x : X) → slice_get xs n ≡ Some x → Contains xs x
slice_get-contains [] n x e = cc
slice_get-contains (z ∷ zs) zero x e = (zero, omega arith, cc)
slice_get-contains (z ∷ zs) (suc n) x e = Contains-there z zs x (slice_get-contains zs n x e)

pub Contains-middle : {X : Type 0} (xs : List X) (y : X) (zs : List X) → Contains (xs ++ y ∷ zs) y
Contains-middle [] y zs = (zero, omega arith, refl)
Contains-middle (x ∷ xs) y zs = let r = Contains-middle xs y zs in Contains-there x (xs ++ y ∷ zs) y r

-- what stands where a list is cut is in it
pub in-split : {X : Type 0} (all ys rest rest' : List X) (x : X) → all ≡ ys ++ rest → rest ≡ x ∷ rest' → Contains all x
in-split {X = X} all ys rest rest' x e f = subst (λ l. Contains l x) (sym (e ∙ ap (λ r. ys ++ r) f)) (Contains-middle ys x rest')

-- the cut, one element further
pub split-step : {X : Type 0} (all ys rest rest' : List X) (x : X) → all ≡ ys ++ rest → rest ≡ x ∷ rest' → all ≡ (ys ++ x ∷ []) ++ rest'
split-step all ys rest rest' x e f = simp append_assoc (e ∙ ap (λ r. ys ++ r) f)

-- where nothing is left, the list was gone through
pub split-end : {X : Type 0} (all ys rest : List X) → all ≡ ys ++ rest → length rest ≡ 0 → ys ≡ all
split-end all ys [] e none = sym (e ∙ append-nil ys)
split-end all ys (x ∷ rest) e none = absurd (omega arith)

-- the element at a place
pub stands-at : {X : Type 0} (xs : List X) (at : ℕ) (x : X) → at < length xs → x ≡ get_or xs at x → slice_get xs at ≡ Some x
stands-at [] at x lt e = absurd (omega (arith, lt))
stands-at (y ∷ ys) zero x lt e = ap Some (sym e)
stands-at (y ∷ ys) (suc at) x lt e = stands-at ys at x (omega (arith, lt)) e

-- an element that was read by its index, from a list that equals this one
pub slice_get-read : {X : Type 0} (xs ys : List X) (n : ℕ) (x : X) → n < length xs → ys ≡ xs → x ≡ get_or ys n x → slice_get xs n ≡ Some x
slice_get-read {X} xs ys n x lt e read = stands-at xs n x lt (read ∙ ap (λ (zs : List X). get_or zs n x) e)

pub slice_get-some : {X : Type 0} (xs : List X) (n : ℕ) → n < length xs → (x : X) × (slice_get xs n ≡ Some x)
slice_get-some [] n lt = absurd (omega arith)
slice_get-some (x ∷ xs) zero lt = (x, refl)
slice_get-some (x ∷ xs) (suc n) lt = slice_get-some xs n (omega arith)

-- what was read at the place where an element stands is that element
pub read-at : {X : Type 0} (xs items : List X) → items ≡ xs → (at : ℕ) (l x : X) → slice_get xs at ≡ Some l → get_or items at x ≡ l
read-at {X} xs items e at l x stands = ap (λ (ys : List X). get_or ys at x) e ∙ get_or_from_slice_get xs at l x stands

-- an element of a changed list is the new one, or one of the old list
pub set-contains : {X : Type 0} (xs : List X) (at : ℕ) (y x : X) → Contains (slice_set xs at y) x → Contains xs x ⊎ (y ≡ x)
set-contains [] at y x h = inl h
set-contains (z ∷ zs) zero y x (zero, lt, e) = inr e
set-contains (z ∷ zs) zero y x (suc k, lt, e) = inl (suc k, lt, e)
set-contains (z ∷ zs) (suc at) y x (zero, lt, e) = inl (zero, omega arith, e)
set-contains (z ∷ zs) (suc at) y x (suc k, lt, e) = elim (set-contains zs at y x (k, omega arith, e)) [
  | inl (k', lt', e') ↦ inl (suc k', omega arith, e')
  | inr same ↦ inr same
]

-- an option holds one thing
pub some-once : {X : Type 0} (o : Option X) (x y : X) → o ≡ Some x → o ≡ Some y → x ≡ y
some-once o x y e f = same_Some x y (sym e ∙ f)

pub slice_get-append_left : {X : Type 0} (xs ys : List X) (n : ℕ) → n < length xs → slice_get (xs ++ ys) n ≡ slice_get xs n
slice_get-append_left [] ys n lt = absurd (omega arith)
slice_get-append_left (x ∷ xs) ys zero lt = refl
slice_get-append_left (x ∷ xs) ys (suc n) lt = slice_get-append_left xs ys n (omega arith)

pub slice_get-mapped : {X Y : Type 0} (f : X → Y) (xs : List X) (n : ℕ) (x : X) → slice_get xs n ≡ Some x → slice_get (map f xs) n ≡ Some (f x)
slice_get-mapped f [] n x e = cc
slice_get-mapped f (y ∷ ys) zero x e = let same : y ≡ x = cc in ap (λ z. Some (f z)) same
slice_get-mapped f (y ∷ ys) (suc n) x e = slice_get-mapped f ys n x e

pub slice_get-none : {X : Type 0} (xs : List X) (n : ℕ) → slice_get xs n ≡ None → length xs ≤ n
slice_get-none [] n e = omega arith
slice_get-none (x ∷ xs) zero e = absurd cc
slice_get-none (x ∷ xs) (suc n) e = let h = slice_get-none xs n e in omega arith

pub slice_get-replicate : {X : Type 0} (m n : ℕ) (x y : X) → slice_get (replicate m x) n ≡ Some y → y ≡ x
slice_get-replicate zero n x y e = cc
slice_get-replicate (suc m) zero x y e = cc
slice_get-replicate (suc m) (suc n) x y e = slice_get-replicate m n x y e

pub slice_get-set_same : {X : Type 0} (xs : List X) (n : ℕ) (x : X) → n < length xs → slice_get (slice_set xs n x) n ≡ Some x
slice_get-set_same [] n x lt = absurd (omega arith)
slice_get-set_same (y ∷ ys) zero x lt = refl
slice_get-set_same (y ∷ ys) (suc n) x lt = slice_get-set_same ys n x (omega arith)

pub Contains-slice_get : {X : Type 0} (xs : List X) (x : X) → Contains xs x → (n : ℕ) × (slice_get xs n ≡ Some x)
Contains-slice_get [] x (k, lt, e) = absurd (omega arith)
Contains-slice_get (y ∷ ys) x (zero, lt, e) = (zero, ap Some e)
Contains-slice_get (y ∷ ys) x (suc k, lt, e) = let r = Contains-slice_get ys x (k, omega arith, e) in (suc r.0, r.1)

pub read-contained : {X : Type 0} (xs ys : List X) (n : ℕ) (x : X) → ys ≡ xs → n < length ys → x ≡ get_or ys n x → Contains xs x
read-contained xs ys n x e lt h = (n, subst (λ l. n < length l) e lt, sym (subst (λ l. x ≡ get_or l n x) e h))

-- marks that are set one after another
pub marked-cases : (marks : List Bool) (m n : ℕ) → slice_get (slice_set marks m true) n ≡ Some true → (n ≡ m) ⊎ (slice_get marks n ≡ Some true)
marked-cases [] m n e = inr e
marked-cases (b ∷ bs) zero zero e = inl refl
marked-cases (b ∷ bs) zero (suc n) e = inr e
marked-cases (b ∷ bs) (suc m) zero e = inr e
marked-cases (b ∷ bs) (suc m) (suc n) e = elim (marked-cases bs m n e) [ inl h ↦ inl (ap suc h) | inr h ↦ inr h ]

pub marked-kept : (marks : List Bool) (m n : ℕ) → slice_get marks n ≡ Some true → slice_get (slice_set marks m true) n ≡ Some true
marked-kept [] m n e = cc
marked-kept (x ∷ xs) zero zero e = refl
marked-kept (x ∷ xs) zero (suc n) e = e
marked-kept (x ∷ xs) (suc m) zero e = e
marked-kept (x ∷ xs) (suc m) (suc n) e = marked-kept xs m n e

-- what is taken or left at an element
pub drop-found : {X : Type 0} (xs : List X) (n : ℕ) (x : X) → slice_get xs n ≡ Some x → drop n xs ≡ x ∷ drop (suc n) xs
drop-found [] n x e = cc
drop-found (y ∷ ys) zero x e = let same : y ≡ x = cc in ap (λ z. z ∷ ys) same
drop-found (y ∷ ys) (suc n) x e = drop-found ys n x e

pub take-read : {X : Type 0} (xs : List X) (n : ℕ) (x : X) → n < length xs → x ≡ get_or xs n x → take (n + 1) xs ≡ take n xs ++ x ∷ []
take-read xs n x lt e = take_more xs n x lt ∙ ap (λ z. take n xs ++ z ∷ []) (sym e)

pub replicate-end : {X : Type 0} (n : ℕ) (x : X) → replicate n x ++ x ∷ [] ≡ replicate (suc n) x
replicate-end zero x = refl
replicate-end (suc n) x = ap (λ xs. x ∷ xs) (replicate-end n x)

pub append-longer : {X : Type 0} (xs ys : List X) → length xs ≤ length (xs ++ ys)
append-longer xs ys = omega (arith, length-append xs ys)

pub push-not_empty : {X : Type 0} (xs : List X) (x : X) → xs ++ x ∷ [] ≡ [] → ⊥
push-not_empty {X} xs x e = absurd (omega (arith, ap length e, length-append xs (x ∷ [])))

pub empty-tested : {X : Type 0} (xs : List X) → nat_eq (length xs) 0 ≡ true → xs ≡ []
empty-tested [] e = refl
empty-tested (x ∷ xs) e = absurd (grind (arith, nat_tests))

pub some-tested : {X : Type 0} (xs : List X) → nat_eq (length xs) 0 ≡ false → 0 < length xs
some-tested [] e = cc
some-tested (x ∷ xs) e = omega arith

pub filter-shorter : {X : Type 0} (p : X → Bool) (xs : List X) → length (filter p xs) ≤ length xs
filter-shorter p [] = omega arith
filter-shorter p (x ∷ xs) = by (p x) (filter-shorter p xs)
  where
    by : (b : Bool) → length (filter p xs) ≤ length xs → length (cond b (x ∷ filter p xs) (filter p xs)) ≤ length (x ∷ xs)
    by true h = omega (arith, h)
    by false h = omega (arith, h)

pub list_any-map : {X : Type 0} (f : X → Bool) (xs : List X) → list_any (λ b. b) (map f xs) ≡ list_any f xs
list_any-map f [] = refl
list_any-map f (x ∷ xs) = ap (λ b. f x || b) (list_any-map f xs)

pub count_by-cons : (v u : ℕ) (us : List ℕ) → count_by (nat_eq v) (u ∷ us) ≡ cond (nat_eq v u) 1 0 + count_by (nat_eq v) us
count_by-cons v u us = sum_by-cons (λ x. cond (nat_eq v x) 1 0) u us

-- each element, one after another
module _ {X : Type 0} (P : X → Type 0) where
  pub AllByRecursion-append : (xs ys : List X) → AllByRecursion P xs → AllByRecursion P ys → AllByRecursion P (xs ++ ys)
  AllByRecursion-append [] ys a b = b
  AllByRecursion-append (x ∷ xs) ys a b = (a.0, AllByRecursion-append xs ys a.1 b)

  pub AllByRecursion-first : (xs ys : List X) → AllByRecursion P (xs ++ ys) → AllByRecursion P xs
  AllByRecursion-first [] ys a = tt
  AllByRecursion-first (x ∷ xs) ys a = (a.0, AllByRecursion-first xs ys a.1)

  pub AllByRecursion-push : (xs : List X) (x : X) → AllByRecursion P xs → P x → AllByRecursion P (xs ++ x ∷ [])
  AllByRecursion-push [] x a p = (p, tt)
  AllByRecursion-push (y ∷ xs) x a p = (a.0, AllByRecursion-push xs x a.1 p)

  pub AllByRecursion-filter : (p : X → Bool) (xs : List X) → AllByRecursion P xs → AllByRecursion P (filter p xs)
  AllByRecursion-filter p [] a = tt
  AllByRecursion-filter p (x ∷ xs) a = by_test (p x) (AllByRecursion-filter p xs a.1)
    where
      by_test : (b : Bool) → AllByRecursion P (filter p xs) → AllByRecursion P (cond b (x ∷ filter p xs) (filter p xs))
      by_test true h = (a.0, h)
      by_test false h = h

  pub All-last : (xs : List X) (y : X) → All P (xs ++ y ∷ []) → P y
  All-last [] y h = All-head P y [] h
  All-last (x ∷ xs) y h = All-last xs y (All-tail P x (xs ++ y ∷ []) h)

module _ {X : Type 0} (P Q : X → Type 0) where
  pub AllByRecursion-weaker : ((x : X) → P x → Q x) → (xs : List X) → AllByRecursion P xs → AllByRecursion Q xs
  AllByRecursion-weaker f [] a = tt
  AllByRecursion-weaker f (x ∷ xs) a = (f x a.0, AllByRecursion-weaker f xs a.1)

  pub AllByRecursion-both : (xs : List X) → AllByRecursion P xs → AllByRecursion Q xs → AllByRecursion (λ x. P x × Q x) xs
  AllByRecursion-both [] p q = tt
  AllByRecursion-both (x ∷ xs) p q = ((p.0, q.0), AllByRecursion-both xs p.1 q.1)

-- two lists, element by element
module _ {X Y : Type 0} (R : X → Y → Type 0) where
  pub AllZip-push : (xs : List X) (ys : List Y) (x : X) (y : Y) → AllZip R xs ys → R x y → AllZip R (xs ++ x ∷ []) (ys ++ y ∷ [])
  AllZip-push [] [] x y a r = (r, tt)
  AllZip-push [] (z ∷ ys) x y a r = absurd a
  AllZip-push (z ∷ xs) [] x y a r = absurd a
  AllZip-push (z ∷ xs) (w ∷ ys) x y a r = (a.0, AllZip-push xs ys x y a.1 r)

  pub AllZip-append : (xs xs' : List X) (ys ys' : List Y) → AllZip R xs ys → AllZip R xs' ys' → AllZip R (xs ++ xs') (ys ++ ys')
  AllZip-append [] xs' [] ys' a b = b
  AllZip-append [] xs' (y ∷ ys) ys' a b = absurd a
  AllZip-append (x ∷ xs) xs' [] ys' a b = absurd a
  AllZip-append (x ∷ xs) xs' (y ∷ ys) ys' a b = (a.0, AllZip-append xs xs' ys ys' a.1 b)

  pub AllZip-length : (xs : List X) (ys : List Y) → AllZip R xs ys → length xs ≡ length ys
  AllZip-length [] [] z = refl
  AllZip-length [] (b ∷ ys) z = absurd z
  AllZip-length (a ∷ xs) [] z = absurd z
  AllZip-length (a ∷ xs) (b ∷ ys) z = ap suc (AllZip-length xs ys z.1)

-- a list that is parted by a test
module _ {X : Type 0} (p : X → Bool) (xs : List X) (i : ℕ) (inside : i ≤ length xs) (point : IsPartitionPoint (λ y. p y ≡ true) (λ y. p y ≡ false) xs i) where
  pub partition-passing : (x : X) → Contains (take i xs) x ↔ (Contains xs x × (p x ≡ true))
  partition-passing x = (
    λ h.
        let lt : h.0 < i = (let l = h.1 in omega (arith, length-take i xs)) in
        let same = sym (get_or-take i xs h.0 x lt) ∙ h.2 in
        ((h.0, omega arith, same), subst (λ y. p y ≡ true) same (point.0 h.0 x (omega arith) lt)),
    λ h. elim (cases_lt h.0.0 i) [
      | inl lt ↦ (h.0.0, (let l = h.0.1 in omega (arith, length-take i xs)), get_or-take i xs h.0.0 x lt ∙ h.0.2)
      | inr le ↦ let f = subst (λ y. p y ≡ false) h.0.2 (point.1 h.0.0 x le h.0.1) in let t = h.1 in absurd (cc)
    ],
  )

  pub partition-failing : (x : X) → Contains (drop i xs) x ↔ (Contains xs x × (p x ≡ false))
  partition-failing x = (
    λ h.
        let lt : i + h.0 < length xs = (let l = h.1 in omega (arith, length-drop i xs)) in
        let same = sym (get_or-drop i xs h.0 x) ∙ h.2 in
        ((i + h.0, lt, same), subst (λ y. p y ≡ false) same (point.1 (i + h.0) x (omega arith) lt)),
    λ h. elim (cases_lt h.0.0 i) [
      | inl lt ↦ let t = subst (λ y. p y ≡ true) h.0.2 (point.0 h.0.0 x (omega arith) lt) in let f = h.1 in absurd (cc)
      | inr le ↦
          let k : ℕ = h.0.0 - i in
          let at : i + k ≡ h.0.0 = omega arith in
          (k, (let l = h.0.1 in omega (arith, length-drop i xs)), get_or-drop i xs k x ∙ ap (λ n. get_or xs n x) at ∙ h.0.2)
    ],
  )

-- what is said of a result
pub ok-no_err : {A B C : Type 0} (a : A) (b : B) → ◌≡◌ {A = Result A B} (Ok a) (Err b) → C
ok-no_err a b e = absurd cc

pub OnOk-weaker : {T E A B : Type 0} (r : Result T E) → OnOk r A → (A → B) → OnOk r B
OnOk-weaker (Ok t) a f = f a
OnOk-weaker (Err e) a f = a

pub IfOk-both : {X E : Type 0} (r : Result X E) (P Q R : X → Type 0) → IfOk r P → IfOk r Q → ((x : X) → P x → Q x → R x) → IfOk r R
IfOk-both (Ok x) P Q R p q f = f x p q
IfOk-both (Err e) P Q R p q f = tt

-- places below a bound
pub below-cases : (k n : ℕ) → k < suc n → (k < n) ⊎ (k ≡ n)
below-cases k n lt = grind arith

pub below_next-cases : (k n : ℕ) → k < n + 1 → (k < n) ⊎ (k ≡ n)
below_next-cases k n lt = grind arith

pub at_most-cases : (k n : ℕ) → k ≤ n → (k < n) ⊎ (k ≡ n)
at_most-cases k n le = below-cases k n (omega (arith, le))
