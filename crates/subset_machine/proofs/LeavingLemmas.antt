-- The edges that leave some states, taken apart range by range.
use Rattle.std.proofs.Common.{◌≡◌, ℕ, zero, suc, ◌+◌, ◌≤◌, ◌<◌, inl, inr, ◌&&◌, true, nat_le, IsTrue, List, [], ◌∷◌, length, slice_get, Some, Contains, refl, sym, ap, ◌∙◌, subst, arith}
use Rattle.std.specs.List.{flat_map}
use Rattle.std.proofs.lemmas.List.{nil_from_length}
use Rattle.std.proofs.lemmas.List.Folds.{Any-from_list_any, list_any-from_Any}
use Rattle.sv_word.specs.Ranges.{in_ranges, IsApartFrom}
use Rattle.sv_list.specs.Lists.{Any-contains, contained, slice_get-contains, Contains-slice_get, Contains-from_map, Contains-map, Contains-none, Contains-cases}
use Rattle.sv_list.specs.Bools.{within-from_tests, within-tests}
use Rattle.machine_core.specs.declared.edge.Edge.{Edge}
use Rattle.machine_core.specs.declared.end.End.{End}
use Rattle.machine_core.specs.Places.{places, pick}
use Rattle.machine_core.specs.Edges.{from_of, at_of, move_of, StepsBy, EndsAt, AreEdgesAndEnds}
use Rattle.machine_core.specs.Moves.{Moves}
use Rattle.subset_machine.specs.declared.leaving.EdgeRange.{EdgeRange}
use Rattle.sv_word.specs.Words.{greatest_character}
use Rattle.subset_machine.specs.Legs.{places_from_some, leg, legs_of, IsRange, RangeLeads, AreLeaving}
use Rattle.subset_machine.proofs.PlaceLemmas.{places-exact, pick-in, pick-out, flat_map-in, flat_map-out}

-- a character lies between the first and the last one of some pair
abbrev pub LiesIn : ℕ → ℕ × ℕ → Type 0
LiesIn c p = (p.0 ≤ c) × (c ≤ p.1)

pub ranges-in : (rs : List (ℕ × ℕ)) (c : ℕ) → IsTrue (in_ranges rs c) → (p : ℕ × ℕ) × Contains rs p × LiesIn c p
ranges-in rs c h =
    let P : ℕ × ℕ → Type 0 = λ p. (nat_le p.0 c && nat_le c p.1) ≡ true in
    let a = contained P rs (Any-from_list_any (λ p. nat_le p.0 c && nat_le c p.1) rs h) in
    (a.0, a.1, within-from_tests a.0.0 a.0.1 c a.2)

pub ranges-out : (rs : List (ℕ × ℕ)) (c : ℕ) (p : ℕ × ℕ) → Contains rs p → LiesIn c p → IsTrue (in_ranges rs c)
ranges-out rs c p i l =
    let P : ℕ × ℕ → Type 0 = λ p. (nat_le p.0 c && nat_le c p.1) ≡ true in
    list_any-from_Any (λ p. nat_le p.0 c && nat_le c p.1) rs (Any-contains P rs p i (within-tests p.0 p.1 c l.0 l.1))

module _ (edges : List Edge) (list : List ℕ) where
  -- the edges that leave one of the states
  abbrev pub edges_from_some : List Edge
  edges_from_some = pick edges (places_from_some edges list)

  pub from-some-in : (e : Edge) → Contains edges_from_some e → Contains edges e × Contains list e.from
  from-some-in e h =
      let p = pick-in edges (places_from_some edges list) e h in
      let s = flat_map-in (λ s. places from_of s edges) list p.0 p.1 in
      let k = (places-exact from_of s.0 edges p.0).0 s.2 in
      let same : k.0 ≡ e = (let a = k.1 in let b = p.2 in cc) in
      (slice_get-contains edges p.0 e p.2, subst (Contains list) (sym k.2 ∙ ap from_of same) s.1)

  pub from-some-out : (e : Edge) → Contains edges e → Contains list e.from → Contains edges_from_some e
  from-some-out e i s =
      let g = Contains-slice_get edges e i in
      pick-out edges (places_from_some edges list) g.0 e
      (flat_map-out (λ s. places from_of s edges) list e.from g.0 s ((places-exact from_of e.from edges g.0).1 (e, g.1, refl))) g.1

  pub leaving-made : ((e : Edge) → Contains edges e → e.cost ≡ []) → AreLeaving edges list (flat_map legs_of edges_from_some)
  leaving-made free = record {
    exact = λ c t. (
      λ a.
          let s = contained (RangeLeads c t) (flat_map legs_of edges_from_some) a in
          let e = flat_map-in legs_of edges_from_some s.0 s.1 in
          let p = Contains-from_map (leg e.0.to) e.0.on s.0 e.2 in
          let l = subst (RangeLeads c t) (sym p.2) s.2 in
          let f = from-some-in e.0 e.1 in
          Any-contains (λ s. StepsBy edges s c [] t) list e.0.from f.1
          (Any-contains (λ d. (d.from ≡ e.0.from) × Moves c [] t (move_of d)) edges e.0 f.0 (refl, (ranges-out e.0.on c p.0 p.1 (l.0, l.1), free e.0 f.0, l.2))),
      λ a.
          let s = contained (λ s. StepsBy edges s c [] t) list a in
          let e = contained (λ d. (d.from ≡ s.0) × Moves c [] t (move_of d)) edges s.2 in
          let p = ranges-in e.0.on c e.2.1.0 in
          let i = from-some-out e.0 e.1 (subst (Contains list) (sym e.2.0) s.1) in
          Any-contains (RangeLeads c t) (flat_map legs_of edges_from_some) (leg e.0.to p.0)
          (flat_map-out legs_of edges_from_some e.0 (leg e.0.to p.0) i (Contains-map (leg e.0.to) e.0.on p.0 p.1)) (p.2.0, p.2.1, e.2.1.2),
    );
  }

pub apart-inside : (low : ℕ) (ps : List (ℕ × ℕ)) (p : ℕ × ℕ) → IsApartFrom low ps → Contains ps p → (p.0 ≤ p.1) × (p.1 ≤ greatest_character)
apart-inside low [] p h i = absurd (Contains-none p i)
apart-inside low (q ∷ qs) p h i = elim (Contains-cases q qs p i) [
  | inl e ↦ subst (λ (r : ℕ × ℕ). (r.0 ≤ r.1) × (r.1 ≤ greatest_character)) e (h.1, h.2)
  | inr j ↦ apart-inside (q.1 + 2) qs p h.3 j
]

-- the ranges of an edge have characters
pub legs-ranges : (e : Edge) → IsApartFrom 0 e.on → (s : EdgeRange) → Contains (legs_of e) s → IsRange s
legs-ranges e apart s i = let p = Contains-from_map (leg e.to) e.on s i in subst IsRange p.2 (apart-inside 0 e.on p.0 apart p.1)

-- without registers nothing costs anything
pub edges-free : (states : ℕ) (edges : List Edge) (ends : List End) → AreEdgesAndEnds states 0 edges ends → (e : Edge) → Contains edges e → e.cost ≡ []
edges-free states edges ends formed e i = nil_from_length e.cost (formed.edge e i).cost

pub ends-free : (states : ℕ) (edges : List Edge) (ends : List End) → AreEdgesAndEnds states 0 edges ends → (e : End) → Contains ends e → e.cost ≡ []
ends-free states edges ends formed e i = nil_from_length e.cost (formed.ending e i).cost

-- each place found is one of the edges
pub places-inside : (edges : List Edge) (list : List ℕ) (i p : ℕ) → slice_get (places_from_some edges list) i ≡ Some p → p < length edges
places-inside edges list i p e =
    let s = flat_map-in (λ s. places from_of s edges) list p (slice_get-contains (places_from_some edges list) i p e) in
    let k = (places-exact from_of s.0 edges p).0 s.2 in
    get-inside edges p k.0 k.1
  where
    get-inside : {X : Type 0} (xs : List X) (i : ℕ) (x : X) → slice_get xs i ≡ Some x → i < length xs
    get-inside [] i x e = cc
    get-inside (y ∷ ys) zero x e = omega arith
    get-inside (y ∷ ys) (suc i) x e = let r = get-inside ys i x e in omega arith

-- an end stands at a state exactly where it has a place
pub ends-found : (ends : List End) (free : (e : End) → Contains ends e → e.cost ≡ []) (s p : ℕ) → Contains (places at_of s ends) p → EndsAt ends s []
ends-found ends free s p h =
    let k = (places-exact at_of s ends p).0 h in
    let i = slice_get-contains ends p k.0 k.1 in
    Any-contains (λ e. (e.at ≡ s) × (e.cost ≡ [])) ends k.0 i (k.2, free k.0 i)

pub ends-none : (ends : List End) (s : ℕ) → places at_of s ends ≡ [] → EndsAt ends s [] → ⊥
ends-none ends s e a =
    let k = contained (λ e. (e.at ≡ s) × (e.cost ≡ [])) ends a in
    let g = Contains-slice_get ends k.0 k.1 in
    Contains-none g.0 (subst (λ l. Contains l g.0) e ((places-exact at_of s ends g.0).1 (k.0, g.1, k.2.0)))
