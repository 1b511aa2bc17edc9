-- What leaves a state, by the places of a row.
use Rattle.std.proofs.Common.{◌≡◌, ℕ, ◌+◌, ◌<◌, ◌↔◌, ◌⊎◌, inl, inr, nat_eq, cond, Bool, true, false, List, [], ◌∷◌, ◌++◌, length, slice_get, get_or, Some, take, Any, Contains, refl, sym, ap, ◌∙◌, subst, arith}
use Rattle.std.specs.List.{filter}
use Rattle.std.proofs.lemmas.Bool.Decides.{nat_tests}
use Rattle.std.proofs.lemmas.List.{length-take}
use Rattle.std.proofs.lemmas.Option.{slice_get-get_or}
use Rattle.sv_list.specs.Lists.{Any-none, Any-here, Any-there, Any-cases, take-read}
use Rattle.machine_core.specs.PlaceLaws.{pick-more, pick-places, places-within, index-add}
use Rattle.machine_core.specs.Places.{places, pick, add_to, IsIndex}
use Rattle.pre_image.proofs.MoreLemmas.{any-more}

-- of those that have the key alone, some have what some have of all, where it comes only with the key
module _ {X : Type 0} (key : X → ℕ) (s : ℕ) (P : X → Type 0) (keyed : (x : X) → P x → key x ≡ s) where
  abbrev kept : List X → List X
  kept xs = filter (λ x. nat_eq (key x) s) xs

  kept-in : (xs : List X) → Any P xs → Any P (kept xs)
  kept-in [] a = a
  kept-in (x ∷ xs) a = by_test (nat_eq (key x) s) refl (Any-cases P x xs a) (kept-in xs)
    where
      by_test : (b : Bool) → nat_eq (key x) s ≡ b → P x ⊎ Any P xs → (Any P xs → Any P (kept xs)) → Any P (cond b (x ∷ kept xs) (kept xs))
      by_test true e (inl h) more = Any-here P x (kept xs) h
      by_test true e (inr h) more = Any-there P x (kept xs) (more h)
      by_test false e (inl h) more = let k = keyed x h in absurd (grind (arith, nat_tests))
      by_test false e (inr h) more = more h

  kept-out : (xs : List X) → Any P (kept xs) → Any P xs
  kept-out [] a = a
  kept-out (x ∷ xs) a = by_test (nat_eq (key x) s) a (kept-out xs)
    where
      by_test : (b : Bool) → Any P (cond b (x ∷ kept xs) (kept xs)) → (Any P (kept xs) → Any P xs) → Any P (x ∷ xs)
      by_test true a more = elim (Any-cases P x (kept xs) a) [
        | inl h ↦ Any-here P x xs h
        | inr h ↦ Any-there P x xs (more h)
      ]
      by_test false a more = Any-there P x xs (more a)

  -- what some element at the places of the row has, some element has
  pub row-all : (xs : List X) (row : List ℕ) → row ≡ places key s xs → (New : Type 0) → New ↔ Any P (pick xs row) → New ↔ Any P xs
  row-all xs row is New h =
      let all : pick xs row ≡ kept xs = ap (pick xs) is ∙ pick-places key s xs in (
        λ n. kept-out xs (subst (Any P) all (h.0 n)),
        λ a. h.1 (subst (Any P) (sym all) (kept-in xs a)),
      )

-- the places of a row are those of elements
pub row-within : {X : Type 0} (key : X → ℕ) (s : ℕ) (xs : List X) (row : List ℕ) → row ≡ places key s xs → (j p : ℕ) → slice_get row j ≡ Some p → p < length xs
row-within key s xs row is j p e = places-within key s xs j p (subst (λ r. slice_get r j ≡ Some p) is e)

-- no place was looked at
pub row-none : {X Y : Type 0} (P : X → Type 0) (Q : Y → Type 0) (all : List Y) → all ≡ [] → Any Q all ↔ Any P []
row-none P Q all none = (λ a. absurd (Any-none Q (subst (Any Q) none a)), λ a. absurd (Any-none P a))

-- an element at a place of the row
pub row-place : {X : Type 0} (xs : List X) (row : List ℕ) (i : ℕ) → ((j p : ℕ) → slice_get row j ≡ Some p → p < length xs) → i < length row → get_or row i 0 < length xs
row-place xs row i within lt = within i (get_or row i 0) (slice_get-get_or row i 0 lt)

pub row-listed : {X : Type 0} (xs : List X) (row : List ℕ) (i : ℕ) (x : X) → ((j p : ℕ) → slice_get row j ≡ Some p → p < length xs) → i < length row → x ≡ get_or xs (get_or row i 0) x → Contains xs x
row-listed xs row i x within lt is = (get_or row i 0, row-place xs row i within lt, sym is)

-- one place more was looked at
pub row-step : {X : Type 0} (P : X → Type 0) (xs : List X) (row : List ℕ) (i : ℕ) (x : X) → ((j p : ℕ) → slice_get row j ≡ Some p → p < length xs) → i < length row
    → x ≡ get_or xs (get_or row i 0) x → (New Old : Type 0) → Old ↔ Any P (pick xs (take i row)) → New ↔ (Old ⊎ P x) → New ↔ Any P (pick xs (take (i + 1) row))
row-step P xs row i x within lt read New Old old new =
    let more = any-more P (pick xs (take i row)) (pick xs (take (i + 1) row)) x (pick-more xs row i x within lt read) in (
      λ n. elim (new.0 n) [ inl o ↦ more.1 (inl (old.0 o)) | inr p ↦ more.1 (inr p) ],
      λ a. elim (more.0 a) [ inl l ↦ new.1 (inl (old.1 l)) | inr p ↦ new.1 (inr p) ],
    )

-- an index of the elements so far, with one element more
pub index-step : {X : Type 0} (key : X → ℕ) (items : List X) (place : ℕ) (x : X) (rows new : List (List ℕ)) → place < length items → x ≡ get_or items place x
    → IsIndex key (take place items) rows → new ≡ add_to (key x) place rows → IsIndex key (take (place + 1) items) new
index-step key items place x rows new lt read h made =
    let long : length (take place items) ≡ place = length-take place items ∙ omega (arith, lt) in
    let grown = subst (λ n. IsIndex key (take place items ++ x ∷ []) (add_to (key x) n rows)) long (index-add key (take place items) x rows h) in
    subst (IsIndex key (take (place + 1) items)) (sym made) (subst (λ l. IsIndex key l (add_to (key x) place rows)) (sym (take-read items place x lt read)) grown)
