-- The edges and the ends of states, found by their places.
use Rattle.std.proofs.Common.{◌≡◌, ℕ, zero, suc, ◌+◌, inl, inr, ◌↔◌, nat_eq, cond, Bool, true, false, Option, Some, None, List, [], ◌∷◌, slice_get, Contains, refl, sym, ap, ◌∙◌, subst, arith}
use Rattle.std.specs.List.{flat_map, cons_option}
use Rattle.std.proofs.lemmas.Bool.Decides.{nat_tests}
use Rattle.machine_core.specs.Places.{places_from, places, pick}
use Rattle.subset_machine.proofs.AscendingLemmas.{contains-join}
use Rattle.sv_list.specs.Lists.{Contains-here, Contains-there, Contains-none, Contains-cases}
use Rattle.std.proofs.lemmas.List.Elements.{Contains-append_left, Contains-append_right, Contains-append_cases}

-- an element stands at a place, with a key
abbrev pub IsKeyed : {X : Type 0} → (X → ℕ) → ℕ → List X → ℕ → Type 0
IsKeyed {X} key s xs p = (x : X) × (slice_get xs p ≡ Some x) × (key x ≡ s)

module _ {X : Type 0} (key : X → ℕ) (s : ℕ) where
  places-in : (k : ℕ) (xs : List X) (p : ℕ) → Contains (places_from key s k xs) p → (i : ℕ) × (p ≡ k + i) × IsKeyed key s xs i
  places-in k [] p h = absurd (Contains-none p h)
  places-in k (x ∷ xs) p h = by_test (places-in (suc k) xs p) (nat_eq (key x) s) refl h
    where
      shifted : (i : ℕ) × (p ≡ suc k + i) × IsKeyed key s xs i → (i : ℕ) × (p ≡ k + i) × IsKeyed key s (x ∷ xs) i
      shifted r = (suc r.0, (let e = r.1 in omega arith), r.2)

      by_test : (Contains (places_from key s (suc k) xs) p → (i : ℕ) × (p ≡ suc k + i) × IsKeyed key s xs i) → (b : Bool) → nat_eq (key x) s ≡ b → Contains (cond b (k ∷ places_from key s (suc k) xs) (places_from key s (suc k) xs)) p
          → (i : ℕ) × (p ≡ k + i) × IsKeyed key s (x ∷ xs) i
      by_test later true e h = elim (Contains-cases k (places_from key s (suc k) xs) p h) [
        | inl same ↦ (0, omega arith, (x, refl, grind (arith, nat_tests)))
        | inr i ↦ shifted (later i)
      ]
      by_test later false e h = shifted (later h)

  places-out : (k : ℕ) (xs : List X) (i : ℕ) → IsKeyed key s xs i → Contains (places_from key s k xs) (k + i)
  places-out k [] i h = let e = h.1 in cc
  places-out k (x ∷ xs) zero h = by_test (nat_eq (key x) s) refl
    where
      same : key x ≡ s
      same = let e : x ≡ h.0 = (let f = h.1 in cc) in ap key e ∙ h.2

      by_test : (b : Bool) → nat_eq (key x) s ≡ b → Contains (cond b (k ∷ places_from key s (suc k) xs) (places_from key s (suc k) xs)) (k + 0)
      by_test true e = contains-join k (places_from key s (suc k) xs) (k + 0) (inl (omega arith))
      by_test false e = (let f = same in absurd (grind (arith, nat_tests)))
  places-out k (x ∷ xs) (suc i) h =
      let at : suc k + i ≡ k + suc i = omega arith in
      subst (Contains (places_from key s k (x ∷ xs))) at (by_test (places-out (suc k) xs i h) (nat_eq (key x) s))
    where
      by_test : Contains (places_from key s (suc k) xs) (suc k + i) → (b : Bool) → Contains (cond b (k ∷ places_from key s (suc k) xs) (places_from key s (suc k) xs)) (suc k + i)
      by_test later true = Contains-there k (places_from key s (suc k) xs) (suc k + i) later
      by_test later false = later

  pub places-exact : (xs : List X) (p : ℕ) → Contains (places key s xs) p ↔ IsKeyed key s xs p
  places-exact xs p = (
    λ h. let r = places-in 0 xs p h in let e = r.1 in let at : r.0 ≡ p = omega arith in subst (IsKeyed key s xs) at r.2,
    λ h. let at : 0 + p ≡ p = omega arith in subst (Contains (places key s xs)) at (places-out 0 xs p h),
  )

-- what stands at the places
module _ {X : Type 0} (xs : List X) where
  pub pick-in : (ps : List ℕ) (x : X) → Contains (pick xs ps) x → (p : ℕ) × Contains ps p × (slice_get xs p ≡ Some x)
  pick-in [] x h = absurd (Contains-none x h)
  pick-in (p ∷ ps) x h = by_get (λ i. let r = pick-in ps x i in (r.0, Contains-there p ps r.0 r.1, r.2)) (slice_get xs p) refl h
    where
      by_get : (Contains (pick xs ps) x → (q : ℕ) × Contains (p ∷ ps) q × (slice_get xs q ≡ Some x)) → (o : Option X) → slice_get xs p ≡ o
          → Contains (cons_option o (pick xs ps)) x → (q : ℕ) × Contains (p ∷ ps) q × (slice_get xs q ≡ Some x)
      by_get later None e h = later h
      by_get later (Some y) e h = elim (Contains-cases y (pick xs ps) x h) [
        | inl same ↦ (p, Contains-here p ps, e ∙ ap Some same)
        | inr i ↦ later i
      ]

  pub pick-out : (ps : List ℕ) (p : ℕ) (x : X) → Contains ps p → slice_get xs p ≡ Some x → Contains (pick xs ps) x
  pick-out [] p x h e = absurd (Contains-none p h)
  pick-out (q ∷ ps) p x h e = elim (Contains-cases q ps p h) [
    | inl same ↦ by_here (slice_get xs q) (ap (slice_get xs) same ∙ e)
    | inr i ↦ by_later (slice_get xs q) (pick-out ps p x i e)
  ]
    where
      by_here : (o : Option X) → o ≡ Some x → Contains (cons_option o (pick xs ps)) x
      by_here None f = cc
      by_here (Some y) f = contains-join y (pick xs ps) x (inl cc)

      by_later : (o : Option X) → Contains (pick xs ps) x → Contains (cons_option o (pick xs ps)) x
      by_later None i = i
      by_later (Some y) i = Contains-there y (pick xs ps) x i

-- an element of lists joined is one of some of them
module _ {X Y : Type 0} (f : X → List Y) where
  pub flat_map-in : (xs : List X) (y : Y) → Contains (flat_map f xs) y → (x : X) × Contains xs x × Contains (f x) y
  flat_map-in [] y h = absurd (Contains-none y h)
  flat_map-in (x ∷ xs) y h = elim (Contains-append_cases (f x) (flat_map f xs) y h) [
    | inl i ↦ (x, Contains-here x xs, i)
    | inr i ↦ let r = flat_map-in xs y i in (r.0, Contains-there x xs r.0 r.1, r.2)
  ]

  pub flat_map-out : (xs : List X) (x : X) (y : Y) → Contains xs x → Contains (f x) y → Contains (flat_map f xs) y
  flat_map-out [] x y h i = absurd (Contains-none x h)
  flat_map-out (z ∷ zs) x y h i = elim (Contains-cases z zs x h) [
    | inl e ↦ Contains-append_left (f z) (flat_map f zs) y (subst (λ w. Contains (f w) y) (sym e) i)
    | inr j ↦ Contains-append_right (f z) (flat_map f zs) y (flat_map-out zs x y j i)
  ]
