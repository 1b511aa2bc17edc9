-- The edges and ends of one state, found by their places.
use Rattle.std.proofs.Common.{◌≡◌, ℕ, zero, suc, ◌+◌, ◌<◌, ◌↔◌, ◌⊎◌, inl, inr, nat_eq, cond, Bool, true, false, List, [], ◌∷◌, ◌++◌, length, slice_get, get_or, Some, map, take, Any, All, refl, ap, sym, ◌∙◌, arith}
use Rattle.std.specs.List.{filter}
use Rattle.std.proofs.lemmas.Bool.Decides.{nat_tests}
use Rattle.std.proofs.lemmas.List.{map_push}
use Rattle.std.proofs.lemmas.List.Elements.{All-map, All-filter, All-contains_itself, All-weaker}
use Rattle.sv_word.specs.Ranges.{IsInhabited}
use Rattle.machine_core.specs.declared.machine.Move.{Move}
use Rattle.machine_core.specs.declared.edge.Edge.{Edge}
use Rattle.machine_core.specs.declared.end.End.{End}
use Rattle.sv_list.specs.Lists.{Any-here, Any-there, Any-cases, Any-none}
use Rattle.machine_core.specs.Moves.{Moves}
use Rattle.machine_core.specs.Places.{pick}
use Rattle.machine_core.specs.PlaceLaws.{pick-more}
use Rattle.machine_core.specs.Edges.{EndsAt, StepsBy, AreEdgesAndEnds, move_of, from_of, at_of}

-- the step of a loop over places, where the element is read by its place
pub picked-step : {X Y : Type 0} (f : X → Y) (xs : List X) (ps : List ℕ) (i : ℕ) (x : X) (out new : List Y) (y : Y)
    → ((j p : ℕ) → slice_get ps j ≡ Some p → p < length xs) → i < length ps → x ≡ get_or xs (get_or ps i 0) x
    → out ≡ map f (pick xs (take i ps)) → new ≡ out ++ y ∷ [] → y ≡ f x
    → new ≡ map f (pick xs (take (i + 1) ps))
picked-step f xs ps i x out new y within lt read so_far pushed made =
    pushed ∙ ap (λ v. out ++ v ∷ []) made ∙ ap (λ l. l ++ f x ∷ []) so_far
    ∙ sym (ap (map f) (pick-more xs ps i x within lt read) ∙ map_push f (pick xs (take i ps)) x)

pub place-below : (n : ℕ) (ps : List ℕ) (i : ℕ) → ((j p : ℕ) → slice_get ps j ≡ Some p → p < n) → i < length ps → get_or ps i 0 < n
place-below n [] i h lt = absurd (omega (arith, lt))
place-below n (p ∷ ps) zero h lt = h zero p refl
place-below n (p ∷ ps) (suc i) h lt = place-below n ps i (λ j q e. h (suc j) q e) (omega (arith, lt))

-- what a filter by the state keeps has a fact where an element with this state has it
module _ {X Y : Type 0} (key : X → ℕ) (f : X → Y) (P : Y → Type 0) (s : ℕ) where
  abbrev Keyed : X → Type 0
  Keyed x = (key x ≡ s) × P (f x)

  abbrev kept : List X → List Y
  kept xs = map f (filter (λ x. nat_eq (key x) s) xs)

  kept-in : (xs : List X) → Any Keyed xs → Any P (kept xs)
  kept-in [] a = absurd (Any-none Keyed a)
  kept-in (x ∷ xs) a = by_test (nat_eq (key x) s) refl (Any-cases Keyed x xs a) (kept-in xs)
    where
      by_test : (b : Bool) → nat_eq (key x) s ≡ b → Keyed x ⊎ Any Keyed xs → (Any Keyed xs → Any P (kept xs))
          → Any P (map f (cond b (x ∷ filter (λ x. nat_eq (key x) s) xs) (filter (λ x. nat_eq (key x) s) xs)))
      by_test true e (inl h) more = Any-here P (f x) (kept xs) h.1
      by_test true e (inr h) more = Any-there P (f x) (kept xs) (more h)
      by_test false e (inl h) more = let k = h.0 in absurd (grind (arith, nat_tests))
      by_test false e (inr h) more = more h

  kept-out : (xs : List X) → Any P (kept xs) → Any Keyed xs
  kept-out [] a = absurd (Any-none P a)
  kept-out (x ∷ xs) a = by_test (nat_eq (key x) s) refl a (kept-out xs)
    where
      by_test : (b : Bool) → nat_eq (key x) s ≡ b → Any P (map f (cond b (x ∷ filter (λ x. nat_eq (key x) s) xs) (filter (λ x. nat_eq (key x) s) xs)))
          → (Any P (kept xs) → Any Keyed xs) → Any Keyed (x ∷ xs)
      by_test true e a more = elim (Any-cases P (f x) (kept xs) a) [
        | inl h ↦ Any-here Keyed x xs ((grind (arith, nat_tests)), h)
        | inr h ↦ Any-there Keyed x xs (more h)
      ]
      by_test false e a more = Any-there Keyed x xs (more a)

  pub kept-exact : (xs : List X) → Any Keyed xs ↔ Any P (kept xs)
  kept-exact xs = (kept-in xs, kept-out xs)

-- the moves and the ends of a state
abbrev pub moves_at : ℕ → List Edge → List (Move ℕ)
moves_at s edges = map move_of (filter (λ e. nat_eq (from_of e) s) edges)

abbrev pub costs_at : ℕ → List End → List (List ℕ)
costs_at s ends = map (λ e. e.cost) (filter (λ e. nat_eq (at_of e) s) ends)

pub moves-exact : (s : ℕ) (edges : List Edge) (c : ℕ) (cost : List ℕ) (to : ℕ) → StepsBy edges s c cost to ↔ Any (Moves c cost to) (moves_at s edges)
moves-exact s edges c cost to = kept-exact from_of move_of (Moves c cost to) s edges

pub costs-exact : (s : ℕ) (ends : List End) (cost : List ℕ) → EndsAt ends s cost ↔ Any (λ e. e ≡ cost) (costs_at s ends)
costs-exact s ends cost = kept-exact at_of (λ e. e.cost) (λ e. e ≡ cost) s ends

pub moves-inhabited : (states width : ℕ) (edges : List Edge) (ends : List End) (formed : AreEdgesAndEnds states width edges ends) (s : ℕ)
    → All (λ m. IsInhabited m.on) (moves_at s edges)
moves-inhabited states width edges ends formed s =
    All-map (λ m. IsInhabited m.on) move_of (filter (λ e. nat_eq (from_of e) s) edges)
    (All-filter (λ e. nat_eq (from_of e) s) (λ e. IsInhabited e.on) edges (All-weaker _ (λ (e : Edge). IsInhabited e.on) (λ e k. (formed.edge e k).on) edges (All-contains_itself edges)))
