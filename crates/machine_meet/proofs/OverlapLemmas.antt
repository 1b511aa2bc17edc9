-- The moves of two lists that read a character in common, by their intervals.
use Rattle.std.proofs.Common.{◌≡◌, ℕ, zero, suc, ◌+◌, ◌<◌, ◌≤◌, ◌⊎◌, inl, inr, ◌↔◌, ◌&&◌, Bool, true, false, List, [], ◌∷◌, ◌++◌, length, map, take, drop, get_or, slice_get, Some, Any, Contains, IsTrue, refl, sym, ap, ◌∙◌, subst, arith, ltb-false, leb-true, le-ltb, le-leb}
use Rattle.std.specs.Cmp.{and_equiv, on_equiv, nat_eq_equiv, IsEquivalence}
use Rattle.std.specs.List.{dedup}
use Rattle.std.specs.List.Retain.{IsFiltered, DiffersFromLast}
use Rattle.std.specs.List.Sorted.{IsPartitionPoint, IsPermutation}
use Rattle.std.specs.Prelude.{◌==◌, nat_lt, nat_le}
use Rattle.std.proofs.lemmas.Bool.Decides.{nat_tests}
use Rattle.std.proofs.lemmas.List.{take_more, take_all}
use Rattle.std.proofs.lemmas.List.Elements.{Contains-append_left, Contains-append_right, Contains-append_cases}
use Rattle.std.proofs.lemmas.List.Filters.{dedup_is}
use Rattle.std.proofs.lemmas.List.Folds.{Any-from_list_any, list_any-from_Any}
use Rattle.std.proofs.lemmas.List.Kept.{Contains-dedup, Contains-from_dedup}
use Rattle.std.proofs.lemmas.List.Sorted.{Contains-permutation, IsPermutation-sym}
use Rattle.std.proofs.lemmas.Option.{slice_get_within}
use Rattle.std.proofs.lemmas.Bool.{cases_lt}
use Rattle.sv_word.specs.Ranges.{in_ranges, IsApartFrom}
use Rattle.sv_list.specs.Lists.{Any-append_left, Any-append_right, Any-push_cases, Any-here, Any-contains, Any-map, contained, Contains-from_map, partition-passing, partition-failing}
use Rattle.sv_list.specs.Bools.{within-from_tests, within-tests}
use Rattle.machine_core.specs.declared.machine.Move.{Move}
use Rattle.machine_meet.specs.declared.overlaps.MoveInterval.{MoveInterval}
use Rattle.machine_meet.specs.Overlaps.{MovesMeet, span, IsSpan, BeginsWithin}

-- an element of a list under a function
module _ {X Y : Type 0} (f : X → Y) where
  in-image : (xs : List X) (x : X) (y : Y) → Contains xs x → f x ≡ y → Contains (map f xs) y
  in-image xs x y h e =
      let a = contained (λ z. z ≡ y) (map f xs) (Any-map f (λ z. z ≡ y) xs (Any-contains (λ x. f x ≡ y) xs x h e)) in
      subst (Contains (map f xs)) a.2 a.1

-- what two searches leave of intervals in the order of their first characters
pub beginning-exact : (spans from out : List MoveInterval) (low high i j : ℕ)
    → i ≤ length spans → IsPartitionPoint (λ (y : MoveInterval). nat_lt y.low low ≡ true) (λ (y : MoveInterval). nat_lt y.low low ≡ false) spans i → from ≡ drop i spans
    → j ≤ length from → IsPartitionPoint (λ (y : MoveInterval). nat_le y.low high ≡ true) (λ (y : MoveInterval). nat_le y.low high ≡ false) from j → out ≡ take j from
    → (s : MoveInterval) → Contains out s ↔ (Contains spans s × (low ≤ s.low) × (s.low ≤ high))
beginning-exact spans from out low high i j l1 p1 e1 l2 p2 e2 s =
    let rest = partition-failing (λ (y : MoveInterval). nat_lt y.low low) spans i l1 p1 s in
    let front = partition-passing (λ (y : MoveInterval). nat_le y.low high) from j l2 p2 s in (
      λ h.
          let a = front.0 (subst (λ l. Contains l s) e2 h) in
          let b = rest.0 (subst (λ l. Contains l s) e1 a.0) in
          (b.0, ltb-false s.low low b.1, leb-true s.low high a.1),
      λ h. subst (λ l. Contains l s) (sym e2) (front.1 (subst (λ l. Contains l s) (sym e1) (rest.1 (h.0, le-ltb s.low low h.1)), le-leb s.low high h.2)),
    )

pair-of : (rs : List (ℕ × ℕ)) (c : ℕ) → IsTrue (in_ranges rs c) → (p : ℕ × ℕ) × Contains rs p × (p.0 ≤ c) × (c ≤ p.1)
pair-of rs c h =
    let P : ℕ × ℕ → Type 0 = λ p. (nat_le p.0 c && nat_le c p.1) ≡ true in
    let a = contained P rs (Any-from_list_any (λ p. nat_le p.0 c && nat_le c p.1) rs h) in
    let t = within-from_tests a.0.0 a.0.1 c a.2 in
    (a.0, a.1, t.0, t.1)

in-pair : (rs : List (ℕ × ℕ)) (c : ℕ) (p : ℕ × ℕ) → Contains rs p → p.0 ≤ c → c ≤ p.1 → IsTrue (in_ranges rs c)
in-pair rs c p i l h =
    let P : ℕ × ℕ → Type 0 = λ p. (nat_le p.0 c && nat_le c p.1) ≡ true in
    list_any-from_Any (λ p. nat_le p.0 c && nat_le c p.1) rs (Any-contains P rs p i (within-tests p.0 p.1 c l h))

-- no pair of a set of characters is turned round
pub pairs-forward : (low : ℕ) (rs : List (ℕ × ℕ)) → IsApartFrom low rs → (p : ℕ × ℕ) → Contains rs p → p.0 ≤ p.1
pairs-forward low [] apart p (k, lt, e) = absurd (omega arith)
pairs-forward low (q ∷ rs) apart p (zero, lt, e) = subst (λ (x : ℕ × ℕ). x.0 ≤ x.1) e apart.1
pairs-forward low (q ∷ rs) apart p (suc k, lt, e) = pairs-forward (q.1 + 2) rs apart.3 p (k, omega arith, e)

-- the intervals of the moves before a place
abbrev pub HasSpans : {S : Type 0} → List (Move S) → ℕ → List MoveInterval → Type 0
HasSpans moves n spans = (s : MoveInterval) → Contains spans s ↔ ((s.place < n) × IsSpan moves s)

module _ {S : Type 0} (moves : List (Move S)) where
  pub spans-more : (spans new : List MoveInterval) (n : ℕ) (m : Move S) → slice_get moves n ≡ Some m → ((p : ℕ × ℕ) → Contains m.on p → p.0 ≤ p.1)
      → new ≡ spans ++ map (span n) m.on → HasSpans moves n spans → HasSpans moves (n + 1) new
  spans-more spans new n m at forward made before s = (
    λ h. elim (Contains-append_cases spans (map (span n) m.on) s (subst (λ l. Contains l s) made h)) [
      | inl i ↦ let b = (before s).0 i in let l = b.0 in (omega arith, b.1)
      | inr i ↦
          let p = Contains-from_map (span n) m.on s i in
          subst (λ (x : MoveInterval). (x.place < n + 1) × IsSpan moves x) p.2 (omega arith, (m, at, p.1, forward p.0 p.1))
    ],
    λ h. subst (λ l. Contains l s) (sym made) (elim (cases_lt s.place n) [
      | inl lt ↦ Contains-append_left spans (map (span n) m.on) s ((before s).1 (lt, h.1))
      | inr le ↦
          let l = h.0 in
          let same : s.place ≡ n = omega arith in
          let found : slice_get moves n ≡ Some h.1.0 = subst (λ k. slice_get moves k ≡ Some h.1.0) same h.1.1 in
          let one : h.1.0 ≡ m = cc in
          let held : Contains m.on (s.low, s.high) = subst (λ (x : Move S). Contains x.on (s.low, s.high)) one h.1.2 in
          let is : span n (s.low, s.high) ≡ s = ap (λ (k : ℕ). span k (s.low, s.high)) (sym same) in
          Contains-append_right spans (map (span n) m.on) s (in-image (span n) m.on (s.low, s.high) s held is)
    ]),
  )

  pub spans-done : (spans sorted : List MoveInterval) (n : ℕ) → length moves ≤ n → IsPermutation spans sorted → HasSpans moves n spans
      → (s : MoveInterval) → Contains sorted s ↔ IsSpan moves s
  spans-done spans sorted n le perm has s = (
    λ h. ((has s).0 (Contains-permutation sorted spans s (IsPermutation-sym spans sorted perm) h)).1,
    λ h. let lt = slice_get_within moves s.place h.0 h.1 in Contains-permutation spans sorted s perm ((has s).1 (omega arith, h)),
  )

-- pairs of places where an interval begins within another one
abbrev pub AreBegun : List MoveInterval → List MoveInterval → List (ℕ × ℕ) → Type 0
AreBegun around spans pairs = (i j : ℕ) → Contains pairs (i, j) ↔ BeginsWithin around spans i j

abbrev pub with_place : ℕ → MoveInterval → ℕ × ℕ
with_place place s = (place, s.place)

module _ (spans : List MoveInterval) where
  abbrev Inner : MoveInterval → ℕ → MoveInterval → Type 0
  Inner a j b = (b.place ≡ j) × (a.low ≤ b.low) × (b.low ≤ a.high)

  abbrev Outer : ℕ → ℕ → MoveInterval → Type 0
  Outer i j a = (a.place ≡ i) × Any (Inner a j) spans

  pub begun-more : (around window : List MoveInterval) (pairs new : List (ℕ × ℕ)) (n : ℕ) (a d : MoveInterval) → n < length around → a ≡ get_or around n d
      → ((s : MoveInterval) → Contains window s ↔ (Contains spans s × (a.low ≤ s.low) × (s.low ≤ a.high)))
      → new ≡ pairs ++ map (with_place a.place) window → AreBegun (take n around) spans pairs → AreBegun (take (n + 1) around) spans new
  begun-more around window pairs new n a d lt is within made before i j =
      let grown : take (n + 1) around ≡ take n around ++ a ∷ [] = take_more around n d lt ∙ ap (λ y. take n around ++ y ∷ []) (sym is) in (
        λ h. subst (Any (Outer i j)) (sym grown) (elim (Contains-append_cases pairs (map (with_place a.place) window) (i, j) (subst (λ l. Contains l (i, j)) made h)) [
          | inl k ↦ Any-append_left (Outer i j) (take n around) (a ∷ []) ((before i j).0 k)
          | inr k ↦
              let b = Contains-from_map (with_place a.place) window (i, j) k in
              let w = (within b.0).0 b.1 in
              let first : a.place ≡ i = ap (λ (p : ℕ × ℕ). p.0) b.2 in
              let second : b.0.place ≡ j = ap (λ (p : ℕ × ℕ). p.1) b.2 in
              Any-append_right (Outer i j) (take n around) (a ∷ []) (Any-here (Outer i j) a [] (first, Any-contains (Inner a j) spans b.0 w.0 (second, w.1, w.2)))
        ]),
        λ h. subst (λ l. Contains l (i, j)) (sym made) (elim (Any-push_cases (Outer i j) (take n around) a (subst (Any (Outer i j)) grown h)) [
          | inl k ↦ Contains-append_left pairs (map (with_place a.place) window) (i, j) ((before i j).1 k)
          | inr o ↦
              let b = contained (Inner a j) spans o.1 in
              let k = (within b.0).1 (b.1, b.2.1, b.2.2) in
              let same : with_place a.place b.0 ≡ (i, j) = ap (λ (x : ℕ). (x, b.0.place)) o.0 ∙ ap (λ (x : ℕ). (i, x)) b.2.0 in
              Contains-append_right pairs (map (with_place a.place) window) (i, j) (in-image (with_place a.place) window b.0 (i, j) k same)
        ]),
      )

  pub begun-done : (around : List MoveInterval) (pairs : List (ℕ × ℕ)) (n : ℕ) → length around ≤ n → AreBegun (take n around) spans pairs → AreBegun around spans pairs
  begun-done around pairs n le h = subst (λ l. AreBegun l spans pairs) (take_all n around le) h

-- moves of which intervals overlap read a character in common
module _ {S T : Type 0} (heads : List (Move S)) (tails : List (Move T)) (hs ts : List MoveInterval)
    (heads-are : (s : MoveInterval) → Contains hs s ↔ IsSpan heads s) (tails-are : (s : MoveInterval) → Contains ts s ↔ IsSpan tails s) where
  begins-meet : (i j : ℕ) → BeginsWithin hs ts i j → MovesMeet heads tails i j
  begins-meet i j h =
      let a = contained (Outer ts i j) hs h in
      let b = contained (Inner ts a.0 j) ts a.2.1 in
      let m = (heads-are a.0).0 a.1 in
      let o = (tails-are b.0).0 b.1 in (
        m.0,
        o.0,
        b.0.low,
        subst (λ k. slice_get heads k ≡ Some m.0) a.2.0 m.1,
        subst (λ k. slice_get tails k ≡ Some o.0) b.2.0 o.1,
        in-pair m.0.on b.0.low (a.0.low, a.0.high) m.2 b.2.1 b.2.2,
        in-pair o.0.on b.0.low (b.0.low, b.0.high) o.2 (omega arith) o.3,
      )

  -- and the other way round one of two such intervals begins within the other one
  meet-begins : (i j : ℕ) → MovesMeet heads tails i j → BeginsWithin hs ts i j ⊎ BeginsWithin ts hs j i
  meet-begins i j m =
      let p = pair-of m.0.on m.2 m.5 in
      let q = pair-of m.1.on m.2 m.6 in
      let pl = p.2 in
      let ph = p.3 in
      let ql = q.2 in
      let qh = q.3 in
      let a = (heads-are (span i p.0)).1 (m.0, m.3, p.1, omega arith) in
      let b = (tails-are (span j q.0)).1 (m.1, m.4, q.1, omega arith) in
      elim (cases_lt q.0.0 p.0.0) [
        | inl lt ↦ inr (Any-contains (Outer hs j i) ts (span j q.0) b (refl, Any-contains (Inner hs (span j q.0) i) hs (span i p.0) a (refl, omega arith, omega arith)))
        | inr le ↦ inl (Any-contains (Outer ts i j) hs (span i p.0) a (refl, Any-contains (Inner ts (span i p.0) j) ts (span j q.0) b (refl, le, omega arith)))
      ]

abbrev pub swapped : ℕ × ℕ → ℕ × ℕ
swapped p = (p.1, p.0)

abbrev pair_eq : ℕ × ℕ → ℕ × ℕ → Bool
pair_eq p q = p.0 == q.0 && p.1 == q.1

pair-equal : IsEquivalence pair_eq
pair-equal = and_equiv (on_equiv (λ (t : ℕ × ℕ). t.0) nat_eq_equiv) (on_equiv (λ (t : ℕ × ℕ). t.1) nat_eq_equiv)

pair-same : (p q : ℕ × ℕ) → pair_eq p q ≡ true → p ≡ q
pair-same p q e =
    let first : p.0 ≡ q.0 = grind (arith, nat_tests) in
    let second : p.1 ≡ q.1 = grind (arith, nat_tests) in
    ap (λ (x : ℕ). (x, p.1)) first ∙ ap (λ (y : ℕ). (q.0, y)) second

pub meeting-done : {S T : Type 0} (heads : List (Move S)) (tails : List (Move T)) (hs ts : List MoveInterval) (first others pairs sorted out : List (ℕ × ℕ))
    → ((s : MoveInterval) → Contains hs s ↔ IsSpan heads s) → ((s : MoveInterval) → Contains ts s ↔ IsSpan tails s)
    → AreBegun hs ts first → AreBegun ts hs others → pairs ≡ first ++ map swapped others
    → IsPermutation pairs sorted → IsFiltered (DiffersFromLast pair_eq) [] sorted out
    → (i j : ℕ) → Contains out (i, j) ↔ MovesMeet heads tails i j
meeting-done heads tails hs ts first others pairs sorted out heads-are tails-are first-are others-are made perm filtered i j =
    let is : out ≡ dedup pair_eq sorted = dedup_is pair_eq sorted out filtered in (
      λ h.
          let a = Contains-from_dedup pair_eq sorted (i, j) (subst (λ l. Contains l (i, j)) is h) in
          let b = subst (λ l. Contains l (i, j)) made (Contains-permutation sorted pairs (i, j) (IsPermutation-sym pairs sorted perm) a) in
          elim (Contains-append_cases first (map swapped others) (i, j) b) [
            | inl k ↦ begins-meet heads tails hs ts heads-are tails-are i j ((first-are i j).0 k)
            | inr k ↦
                let p = Contains-from_map swapped others (i, j) k in
                let one : p.0.1 ≡ i = ap (λ (x : ℕ × ℕ). x.0) p.2 in
                let two : p.0.0 ≡ j = ap (λ (x : ℕ × ℕ). x.1) p.2 in
                let o = subst (Contains others) (ap (λ (x : ℕ). (x, p.0.1)) two ∙ ap (λ (x : ℕ). (j, x)) one) p.1 in
                let m = begins-meet tails heads ts hs tails-are heads-are j i ((others-are j i).0 o) in
                (m.1, m.0, m.2, m.4, m.3, m.6, m.5)
          ],
      λ m.
          let both : Contains pairs (i, j) = subst (λ l. Contains l (i, j)) (sym made) (elim (meet-begins heads tails hs ts heads-are tails-are i j m) [
            | inl b ↦ Contains-append_left first (map swapped others) (i, j) ((first-are i j).1 b)
            | inr b ↦ Contains-append_right first (map swapped others) (i, j) (in-image swapped others (j, i) (i, j) ((others-are j i).1 b) refl)
          ]) in
          subst (λ l. Contains l (i, j)) (sym is) (Contains-dedup pair-equal pair-same sorted (i, j) (Contains-permutation pairs sorted (i, j) perm both)),
    )
