-- Move lists that grow by the steps of a part.
use Rattle.std.proofs.Common.{◌≡◌, ℕ, suc, ◌↔◌, inl, inr, Bool, true, false, IsTrue, nat_eq, cond, not, List, [], ◌∷◌, ◌++◌, length, map, Any, All, refl, ap, sym, ◌∙◌, subst, arith, append_assoc}
use Rattle.std.proofs.lemmas.Bool.Decides.{nat_tests}
use Rattle.std.proofs.lemmas.List.{map-append}
use Rattle.std.proofs.lemmas.List.Elements.{All-append, All-map}
use Rattle.sv_word.specs.Ranges.{IsInhabited}
use Rattle.machine_core.specs.declared.graph.Graph.{Graph}
use Rattle.machine_core.specs.declared.machine.Move.{Move}
use Rattle.machine_core.specs.declared.end.End.{End}
use Rattle.machine_core.specs.Edges.{EndsAt, StepsBy, at_of}
use Rattle.machine_core.specs.Places.{places_from, places}
use Rattle.machine_core.specs.Moves.{Moves}
use Rattle.sv_list.specs.Lists.{Any-none, Any-here, Any-there, Any-cases, Any-append_left, Any-append_right, Any-append_cases, Any-weaker, Any-map, Any-from_map, contained, Any-contains}
use Rattle.machine_meet.specs.Joins.{AreInhabited}
use Rattle.regex_machine.specs.Stepped.{LeadsToPart, led, AddsSteps, AreLed, AreEndsIf}
use Rattle.regex_machine.proofs.WordLemmas.{step-free, end-free}
use Rattle.regex_machine.proofs.CopyLanguage.{not-zero}

-- one element more, pushed behind what a list began with
pub mapped-more : {X Y : Type 0} (f : X → Y) (start : List Y) (xs : List X) (old new : List Y) (x : X) → old ≡ start ++ map f xs → new ≡ old ++ f x ∷ []
    → new ≡ start ++ map f (xs ++ x ∷ [])
mapped-more f start xs old new x before made =
    made ∙ ap (λ l. l ++ f x ∷ []) before ∙ append_assoc start (map f xs) (f x ∷ []) ∙ ap (λ l. start ++ l) (sym (map-append f xs (x ∷ [])))

pair-is : (k n : ℕ) (to : ℕ × ℕ) → to.0 ≡ k → n ≡ to.1 → ◌≡◌ {A = ℕ × ℕ} (k, n) to
pair-is k n to e f = (let P : ℕ → ℕ × ℕ = λ x. (k, x) in let Q : ℕ → ℕ × ℕ = λ x. (x, to.1) in ap P f ∙ ap Q (sym e))

module _ (m : Graph) (plain : m.registers ≡ 0) (s k : ℕ) (moves : List (Move ℕ))
    (exact : (c : ℕ) (cost : List ℕ) (to : ℕ) → StepsBy m.edges s c cost to ↔ Any (Moves c cost to) moves) where
  led-out : (c : ℕ) (cost : List ℕ) (to : ℕ × ℕ) → Any (Moves c cost to) (map (led k) moves) → LeadsToPart m s k c cost to
  led-out c cost to a =
      let M : Move (ℕ × ℕ) → Type 0 = Moves c cost to in
      let h = Any-from_map (led k) M moves a in
      let g = contained (λ (e : Move ℕ). M (led k e)) moves h in
      let P : ℕ × ℕ → ℕ = λ p. p.1 in
      let Q : ℕ × ℕ → ℕ = λ p. p.0 in
      let st = (exact c cost to.1).1 (Any-contains (Moves c cost to.1) moves g.0 g.1 (g.2.0, g.2.1, ap P g.2.2)) in
      let free = step-free m plain s to.1 c cost st in
      (free, sym (ap Q g.2.2), subst (λ x. StepsBy m.edges s c x to.1) free st)

  led-in : (c : ℕ) (cost : List ℕ) (to : ℕ × ℕ) → LeadsToPart m s k c cost to → Any (Moves c cost to) (map (led k) moves)
  led-in c cost to h =
      let M : Move (ℕ × ℕ) → Type 0 = Moves c cost to in
      let st = (exact c cost to.1).0 (subst (λ x. StepsBy m.edges s c x to.1) (sym h.0) h.2) in
      Any-map (led k) M moves (Any-weaker (Moves c cost to.1) (λ (e : Move ℕ). M (led k e)) (λ e p. (p.0, p.1, pair-is k e.to to h.1 p.2)) moves st)

  pub steps-added : (old new : List (Move (ℕ × ℕ))) → new ≡ old ++ map (led k) moves → AddsSteps m s k old new
  steps-added old new e c cost to =
      let M : Move (ℕ × ℕ) → Type 0 = Moves c cost to in (
        λ a. elim (Any-append_cases M old (map (led k) moves) (subst (Any M) e a)) [ inl h ↦ inl h | inr h ↦ inr (led-out c cost to h) ],
        λ h. subst (Any M) (sym e) (elim h [
          | inl a ↦ Any-append_left M old (map (led k) moves) a
          | inr st ↦ Any-append_right M old (map (led k) moves) (led-in c cost to st)
        ]),
      )

pub steps-inhabited : (k : ℕ) (moves : List (Move ℕ)) (old new : List (Move (ℕ × ℕ))) → new ≡ old ++ map (led k) moves
    → All (λ m. IsInhabited m.on) moves → AreInhabited old → AreInhabited new
steps-inhabited k moves old new e h g = let P : Move (ℕ × ℕ) → Type 0 = λ m. IsInhabited m.on in
    subst (All P) (sym e) (All-append P old (map (led k) moves) g (All-map P (led k) moves h))

-- to an empty list
pub steps-alone : (m : Graph) (s k : ℕ) (old new : List (Move (ℕ × ℕ))) → old ≡ [] → AddsSteps m s k old new → AreLed m s k new
steps-alone m s k old new e h c cost to = (
  λ a. elim ((h c cost to).0 a) [ inl o ↦ absurd (Any-none (Moves c cost to) (subst (Any (Moves c cost to)) e o)) | inr st ↦ st ],
  λ st. (h c cost to).1 (inr st),
)

-- a state is found among the ends exactly where it has one
abbrev Stands : ℕ → End → Type 0
Stands s e = e.at ≡ s

found : (s k : ℕ) (ends : List End) → (places_from at_of s k ends ≡ [] → ⊥) → Any (Stands s) ends
found s k [] h = absurd (h refl)
found s k (e ∷ ends) h = by_test (found s (suc k) ends) (nat_eq (at_of e) s) refl h
  where
    by_test : ((places_from at_of s (suc k) ends ≡ [] → ⊥) → Any (Stands s) ends) → (b : Bool) → nat_eq (at_of e) s ≡ b
        → (cond b (k ∷ places_from at_of s (suc k) ends) (places_from at_of s (suc k) ends) ≡ [] → ⊥) → Any (Stands s) (e ∷ ends)
    by_test later true t g = Any-here (Stands s) e ends (grind (arith, nat_tests))
    by_test later false t g = Any-there (Stands s) e ends (later g)

missed : (s k : ℕ) (ends : List End) → places_from at_of s k ends ≡ [] → Any (Stands s) ends → ⊥
missed s k [] h a = Any-none (Stands s) a
missed s k (e ∷ ends) h a = by_test (missed s (suc k) ends) (nat_eq (at_of e) s) refl h
  where
    clash : nat_eq (at_of e) s ≡ false → at_of e ≡ s → ⊥
    clash t same = grind (arith, nat_tests)

    by_test : (places_from at_of s (suc k) ends ≡ [] → Any (Stands s) ends → ⊥) → (b : Bool) → nat_eq (at_of e) s ≡ b
        → cond b (k ∷ places_from at_of s (suc k) ends) (places_from at_of s (suc k) ends) ≡ [] → ⊥
    by_test later true t g = cc
    by_test later false t g = elim (Any-cases (Stands s) e ends a) [ inl same ↦ clash t same | inr i ↦ later g i ]

pub end-found : (m : Graph) → m.registers ≡ 0 → (s : ℕ) → (places at_of s m.ends ≡ [] → ⊥) → EndsAt m.ends s []
end-found m plain s h =
    let g = contained (Stands s) m.ends (found s 0 m.ends h) in
    let E : List ℕ → End → Type 0 = λ k e. (e.at ≡ s) × (e.cost ≡ k) in
    let here : EndsAt m.ends s g.0.cost = Any-contains (E g.0.cost) m.ends g.0 g.1 (g.2, refl) in
    subst (EndsAt m.ends s) (end-free m plain s g.0.cost here) here

pub end-missed : (m : Graph) (s : ℕ) → places at_of s m.ends ≡ [] → EndsAt m.ends s [] → ⊥
end-missed m s h e = missed s 0 m.ends h (Any-weaker (λ (e : End). (e.at ≡ s) × (e.cost ≡ [])) (Stands s) (λ x p. p.0) m.ends e)

pub one-end : (may : Bool) (costs : List (List ℕ)) → may ≡ true → costs ≡ [] ∷ [] → AreEndsIf may costs
one-end may costs t e cost = (
  λ a. elim (Any-cases (λ x. x ≡ cost) [] [] (subst (Any (λ x. x ≡ cost)) e a)) [ inl h ↦ (sym h, t) | inr none ↦ absurd (Any-none (λ x. x ≡ cost) none) ],
  λ h. subst (Any (λ x. x ≡ cost)) (sym e) (Any-here (λ x. x ≡ cost) [] [] (sym h.0)),
)

pub no-end : (may : Bool) (costs : List (List ℕ)) → may ≡ false → costs ≡ [] → AreEndsIf may costs
no-end may costs t e cost = (
  λ a. absurd (Any-none (λ x. x ≡ cost) (subst (Any (λ x. x ≡ cost)) e a)),
  λ h. (let f = h.1 in cc),
)

filled : (x : ℕ) (l p : List ℕ) → x ∷ l ≡ p → p ≡ [] → ⊥
filled x l p i n = cc

-- a row of places that isn't empty says that a word may end
pub may-end : (m : Graph) → m.registers ≡ 0 → (s : ℕ) (row : List ℕ) (empty result : Bool) → row ≡ places at_of s m.ends → empty ≡ nat_eq (length row) 0 → result ≡ not empty
    → IsTrue result ↔ EndsAt m.ends s []
may-end m plain s row empty result is e f = by_row row is e
  where
    by_row : (l : List ℕ) → l ≡ places at_of s m.ends → empty ≡ nat_eq (length l) 0 → IsTrue result ↔ EndsAt m.ends s []
    by_row [] i g = (λ t. cc, λ h. absurd (end-missed m s (sym i) h))
    by_row (x ∷ l) i g = (λ t. end-found m plain s (λ n. filled x l (places at_of s m.ends) i n), λ h. f ∙ ap not (g ∙ not-zero (length l)))
