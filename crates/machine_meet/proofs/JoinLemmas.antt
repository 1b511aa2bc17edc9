-- Moves that are joined, two by two.
use Rattle.std.proofs.Common.{◌≡◌, ℕ, zero, suc, ◌+◌, ◌<◌, ◌≤◌, ◌↔◌, inl, inr, List, [], ◌∷◌, ◌++◌, length, take, get_or, slice_get, Some, Any, Contains, IsTrue, refl, ap, sym, ◌∙◌, subst, arith}
use Rattle.std.proofs.lemmas.List.{take_more, take_all}
use Rattle.std.proofs.lemmas.List.Elements.{All-nil, Contains-get_or}
use Rattle.std.proofs.lemmas.Option.{slice_get_read, slice_get_within}
use Rattle.std.proofs.lemmas.List.Quantifiers.{Any-push}
use Rattle.std.proofs.lemmas.Bool.{and_parts, and_from}
use Rattle.sv_word.specs.Ranges.{in_ranges, IsInhabited}
use Rattle.sv_list.specs.Lists.{Any-none, Any-append_left, Any-push_cases, Any-contains, contained, slice_get-contains}
use Rattle.machine_core.specs.Moves.{Moves}
use Rattle.machine_core.specs.declared.machine.Move.{Move}
use Rattle.machine_meet.specs.Joins.{AreInhabited, Joins, IsJoin, AreJoins}
use Rattle.machine_meet.specs.Overlaps.{MovesMeet}

module _ {X : Type 0} where
  pub take-push : (xs : List X) (i : ℕ) (d : X) → i < length xs → take (suc i) xs ≡ take i xs ++ get_or xs i d ∷ []
  take-push [] i d h = absurd (omega arith)
  take-push (x ∷ xs) zero d h = refl
  take-push (x ∷ xs) (suc i) d h = ap (λ l. x ∷ l) (take-push xs i d (omega arith))

  pub take-all : (xs : List X) (i : ℕ) → i ≡ length xs → take i xs ≡ xs
  take-all [] zero h = refl
  take-all [] (suc i) h = absurd (omega arith)
  take-all (x ∷ xs) zero h = absurd (omega arith)
  take-all (x ∷ xs) (suc i) h = ap (λ l. x ∷ l) (take-all xs i (omega arith))

  pub Any-old : (P : X → Type 0) (xs : List X) (y : X) → Any P xs → Any P (xs ++ y ∷ [])
  Any-old P xs y a = Any-append_left P xs (y ∷ []) a

module _ {S : Type 0} (head : Move S) (tail : Move (List S)) where
  join-is : (m : Move (List S)) → IsJoin head tail m → (c : ℕ) (cost : List ℕ) (to : List S) → Moves c cost to m ↔ Joins c cost to head tail
  join-is m j c cost to = (
    λ h. let on = and_parts (in_ranges head.on c) (in_ranges tail.on c) (subst IsTrue (j.on c) h.0) in (on.0, on.1, sym j.cost ∙ h.1, sym j.to ∙ h.2),
    λ h. (subst IsTrue (sym (j.on c)) (and_from (in_ranges head.on c) (in_ranges tail.on c) h.0 h.1), j.cost ∙ h.2, j.to ∙ h.3),
  )

-- what the moves at two places make together
abbrev pub JoinsAt : {S : Type 0} → List (Move S) → List (Move (List S)) → ℕ → List ℕ → List S → ℕ × ℕ → Type 0
JoinsAt {S} heads tails c cost to p = (h : Move S) × (t : Move (List S)) × (slice_get heads p.0 ≡ Some h) × (slice_get tails p.1 ≡ Some t) × Joins c cost to h t

-- these are the moves that the moves at these places make together
abbrev pub AreMade : {S : Type 0} → List (Move S) → List (Move (List S)) → List (ℕ × ℕ) → List (Move (List S)) → Type 0
AreMade {S} heads tails pairs all = (c : ℕ) (cost : List ℕ) (to : List S) → Any (Moves c cost to) all ↔ Any (JoinsAt heads tails c cost to) pairs

-- the moves at a listed pair of places
module _ {S T : Type 0} (heads : List (Move S)) (tails : List (Move T)) (pairs items : List (ℕ × ℕ)) (same : pairs ≡ items)
    (meet : (i j : ℕ) → Contains items (i, j) ↔ MovesMeet heads tails i j) (n : ℕ) (lt : n < length pairs) where
  here : MovesMeet heads tails (get_or pairs n (0, 0)).0 (get_or pairs n (0, 0)).1
  here = (meet (get_or pairs n (0, 0)).0 (get_or pairs n (0, 0)).1).0 (subst (λ l. Contains l (get_or pairs n (0, 0))) same (Contains-get_or pairs n (0, 0) lt))

  pub first-within : (get_or pairs n (0, 0)).0 < length heads
  first-within = let m = here in slice_get_within heads (get_or pairs n (0, 0)).0 m.0 m.3

  pub second-within : (get_or pairs n (0, 0)).1 < length tails
  second-within = let m = here in slice_get_within tails (get_or pairs n (0, 0)).1 m.1 m.4

  module _ (h : Move S) (t : Move T) (eh : h ≡ get_or heads (get_or pairs n (0, 0)).0 h) (et : t ≡ get_or tails (get_or pairs n (0, 0)).1 t) where
    pub first-at : slice_get heads (get_or pairs n (0, 0)).0 ≡ Some h
    first-at = slice_get_read heads (length heads) (get_or pairs n (0, 0)).0 h refl first-within eh

    pub second-at : slice_get tails (get_or pairs n (0, 0)).1 ≡ Some t
    second-at = slice_get_read tails (length tails) (get_or pairs n (0, 0)).1 t refl second-within et

    pub pair-meets : (c : ℕ) × IsTrue (in_ranges h.on c) × IsTrue (in_ranges t.on c)
    pair-meets =
        let m = here in
        let one : m.0 ≡ h = (let a = m.3 in let b = first-at in cc) in
        let two : m.1 ≡ t = (let a = m.4 in let b = second-at in cc) in
        (m.2, subst (λ (x : Move S). IsTrue (in_ranges x.on m.2)) one m.5, subst (λ (x : Move T). IsTrue (in_ranges x.on m.2)) two m.6)

module _ {S : Type 0} (heads : List (Move S)) (tails : List (Move (List S))) where
  made-none : AreMade heads tails [] []
  made-none c cost to = (λ h. absurd (Any-none (Moves c cost to) h), λ h. absurd (Any-none (JoinsAt heads tails c cost to) h))

  pub made-start : (all : List (Move (List S))) → all ≡ [] → AreMade heads tails [] all × AreInhabited all
  made-start all e = (subst (AreMade heads tails []) (sym e) made-none, subst AreInhabited (sym e) (All-nil (λ (m : Move (List S)). IsInhabited m.on)))

  pub made-more : (pairs : List (ℕ × ℕ)) (old new : List (Move (List S))) (n i j : ℕ) (d : ℕ × ℕ) (h : Move S) (t m : Move (List S))
      → n < length pairs → (i, j) ≡ get_or pairs n d → slice_get heads i ≡ Some h → slice_get tails j ≡ Some t → IsJoin h t m
      → new ≡ old ++ m ∷ [] → AreMade heads tails (take n pairs) old → AreMade heads tails (take (n + 1) pairs) new
  made-more pairs old new n i j d h t m lt is hat tat join pushed before c cost to =
      let P : ℕ × ℕ → Type 0 = JoinsAt heads tails c cost to in
      let grown : take (n + 1) pairs ≡ take n pairs ++ (i, j) ∷ [] = take_more pairs n d lt ∙ ap (λ y. take n pairs ++ y ∷ []) (sym is) in (
        λ a. subst (Any P) (sym grown) (elim (Any-push_cases (Moves c cost to) old m (subst (Any (Moves c cost to)) pushed a)) [
          | inl k ↦ Any-old P (take n pairs) (i, j) ((before c cost to).0 k)
          | inr k ↦ Any-push P (take n pairs) (i, j) (h, t, hat, tat, (join-is h t m join c cost to).0 k)
        ]),
        λ a. subst (Any (Moves c cost to)) (sym pushed) (elim (Any-push_cases P (take n pairs) (i, j) (subst (Any P) grown a)) [
          | inl k ↦ Any-old (Moves c cost to) old m ((before c cost to).1 k)
          | inr k ↦
              let one : k.0 ≡ h = (let e = k.2 in cc) in
              let two : k.1 ≡ t = (let e = k.3 in cc) in
              let joins : Joins c cost to h t = subst (λ (x : Move S). Joins c cost to x t) one (subst (Joins c cost to k.0) two k.4) in
              Any-push (Moves c cost to) old m ((join-is h t m join c cost to).1 joins)
        ]),
      )

  -- no two moves that meet are left out
  pub made-all : (pairs : List (ℕ × ℕ)) (all : List (Move (List S))) (n : ℕ) → length pairs ≤ n → ((i j : ℕ) → Contains pairs (i, j) ↔ MovesMeet heads tails i j)
      → AreMade heads tails (take n pairs) all → AreJoins heads tails all
  made-all pairs all n le meet made c cost to =
      let P : ℕ × ℕ → Type 0 = JoinsAt heads tails c cost to in
      let done = subst (λ l. AreMade heads tails l all) (take_all n pairs le) made in (
        λ a.
            let p = contained P pairs ((done c cost to).0 a) in
            let h = slice_get-contains heads p.0.0 p.2.0 p.2.2 in
            let t = slice_get-contains tails p.0.1 p.2.1 p.2.3 in
            Any-contains (λ (x : Move S). Any (Joins c cost to x) tails) heads p.2.0 h (Any-contains (Joins c cost to p.2.0) tails p.2.1 t p.2.4),
        λ a.
            let hat = get-some heads a.0 a.1 a.2 a.3 in
            let b = a.4 in
            let tat = get-some tails b.0 b.1 b.2 b.3 in
            let here = (meet a.0 b.0).1 (a.1, b.1, c, hat, tat, b.4.0, b.4.1) in
            (done c cost to).1 (Any-contains P pairs (a.0, b.0) here (a.1, b.1, hat, tat, b.4)),
      )
    where
      get-some : {X : Type 0} (xs : List X) (k : ℕ) (x : X) → k < length xs → get_or xs k x ≡ x → slice_get xs k ≡ Some x
      get-some xs k x lt e = slice_get_read xs (length xs) k x refl lt (sym e)
