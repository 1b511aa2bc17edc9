-- The words of the lists of states are the machine's, or all others.
use Rattle.std.proofs.Common.{◌≡◌, ℕ, ◌≤◌, inl, inr, ◌↔◌, ◌&&◌, true, false, Bool, nat_le, IsTrue, List, [], ◌∷◌, length, Any, Contains, refl, sym, ap, ◌∙◌, subst, arith}
use Rattle.std.specs.List.{flat_map}
use Rattle.std.proofs.lemmas.Bool.Decides.{nat_tests}
use Rattle.sv_word.specs.Words.{IsWord, greatest_character}
use Rattle.machine_core.specs.Costs.{add_costs}
use Rattle.sv_list.specs.Lists.{Any-here, Any-there, Any-cases, Any-none, Any-contains, Contains-here, contained, Contains-none}
use Rattle.machine_core.specs.Language.{RunsFrom}
use Rattle.machine_core.specs.declared.edge.Edge.{Edge}
use Rattle.machine_core.specs.declared.end.End.{End}
use Rattle.machine_core.specs.declared.graph.Graph.{Graph}
use Rattle.machine_core.specs.Edges.{EndsAt, StepsBy, AreEdgesAndEnds}
use Rattle.machine_core.specs.EdgeLaws.{step_character}
use Rattle.std.specs.BTreeMap.{BTreeMap, get}
use Rattle.std.proofs.Common.{Some, nat_eq}
use Rattle.std.specs.Prelude.{not}
use Rattle.std.proofs.Math.Bool.{beq}
use Rattle.machine_core.specs.Places.{pick}
use Rattle.machine_core.specs.Graphs.{Accepts}
use Rattle.subset_machine.specs.declared.leaving.EdgeRange.{EdgeRange}
use Rattle.subset_machine.specs.Legs.{RangeLeads, AreLeaving, AreUniformIntervals, AreHits, places_from_some, legs_of}
use Rattle.subset_machine.specs.Subsets.{ListsAll, StepsFromSome, EndsInSome, MayEnd, SubsetEnds, SubsetSteps, SubsetAccepts, HasSignedWord}
use Rattle.subset_machine.specs.Groups.{lists_cmp, AreGroups, AreIntervals, MovesUnder}
use Rattle.subset_machine.proofs.AscendingLemmas.{lists-same, lists-weaker, Rises, rises-increasing, inserted}
use Rattle.subset_machine.proofs.LeavingLemmas.{ranges-in, ranges-out, edges_from_some, leaving-made, edges-free, ends-free}

-- ranges lead to a list of states on each character
reached : (c : ℕ) (legs : List EdgeRange) → (next : List ℕ) × Rises 0 next × ((t : ℕ) → Contains next t ↔ Any (RangeLeads c t) legs)
reached c [] = ([], tt, λ t. (λ i. absurd (Contains-none t i), λ a. absurd (Any-none (RangeLeads c t) a)))
reached c (s ∷ ss) = by_test (reached c ss) (nat_le s.low c && nat_le c s.high) refl
  where
    inside : (a b c : ℕ) → (nat_le a c && nat_le c b) ≡ true → (a ≤ c) × (c ≤ b)
    inside a b c e = ((grind (arith, nat_tests)), grind (arith, nat_tests))

    outside : (a b c : ℕ) → (nat_le a c && nat_le c b) ≡ false → a ≤ c → c ≤ b → ⊥
    outside a b c e l h = grind (arith, nat_tests)

    by_test : (next : List ℕ) × Rises 0 next × ((t : ℕ) → Contains next t ↔ Any (RangeLeads c t) ss) → (b : Bool) → (nat_le s.low c && nat_le c s.high) ≡ b
        → (next : List ℕ) × Rises 0 next × ((t : ℕ) → Contains next t ↔ Any (RangeLeads c t) (s ∷ ss))
    by_test r true e =
        let with = inserted 0 s.to r.0 (omega arith) r.1 in
        let l = inside s.low s.high c e in (
          with.0,
          with.1,
          λ t. (
            λ i. elim ((with.2 t).0 i) [ inl same ↦ Any-here (RangeLeads c t) s ss (l.0, l.1, same) | inr j ↦ Any-there (RangeLeads c t) s ss ((r.2 t).0 j) ],
            λ a. (with.2 t).1 (elim (Any-cases (RangeLeads c t) s ss a) [ inl h ↦ inl h.2 | inr h ↦ inr ((r.2 t).1 h) ]),
          ),
        )
    by_test r false e = (
      r.0,
      r.1,
      λ t. (
        λ i. Any-there (RangeLeads c t) s ss ((r.2 t).0 i),
        λ a. elim (Any-cases (RangeLeads c t) s ss a) [ inl h ↦ absurd (outside s.low s.high c e h.0 h.1) | inr h ↦ (r.2 t).1 h ],
      ),
    )

-- so a list follows each list on each character
pub next-list : (edges : List Edge) → ((e : Edge) → Contains edges e → e.cost ≡ []) → (list : List ℕ) (c : ℕ) → (next : List ℕ) × ListsAll (StepsFromSome edges list c) next
next-list edges free list c =
    let legs = flat_map legs_of (edges_from_some edges list) in
    let r = reached c legs in
    let l = leaving-made edges list free in
    (r.0, lists-weaker (λ t. Any (RangeLeads c t) legs) (StepsFromSome edges list c) r.0 (l.exact c) (record { ascending = rises-increasing 0 r.0 r.1; exact = r.2 }))

-- some state of the list reads the word
abbrev SomeReads : List Edge → List End → List ℕ → List ℕ → Type 0
SomeReads edges ends list word = Any (λ s. RunsFrom (EndsAt ends) (StepsBy edges) s word []) list

module _ (edges : List Edge) (ends : List End) (free : (e : Edge) → Contains edges e → e.cost ≡ []) (free_end : (e : End) → Contains ends e → e.cost ≡ []) where
  step-free : (s c : ℕ) (k : List ℕ) (t : ℕ) → StepsBy edges s c k t → k ≡ []
  step-free s c k t a = sym a.4.1.1 ∙ free a.1 (a.0, a.2, a.3)

  run-free : (word : List ℕ) (s : ℕ) (k : List ℕ) → RunsFrom (EndsAt ends) (StepsBy edges) s word k → k ≡ []
  run-free [] s k a = sym a.4.1 ∙ free_end a.1 (a.0, a.2, a.3)
  run-free (c ∷ word) s k r = r.5 ∙ ap (λ l. add_costs l r.2) (step-free s c r.0 r.1 r.3)

  -- a state of the list reads a character and then the word where a state of the next list reads the word
  read-on : (list : List ℕ) (c : ℕ) (next word : List ℕ) → ListsAll (StepsFromSome edges list c) next → SomeReads edges ends next word → SomeReads edges ends list (c ∷ word)
  read-on list c next word l a =
      let t = contained (λ s. RunsFrom (EndsAt ends) (StepsBy edges) s word []) next a in
      let s = contained (λ s. StepsBy edges s c [] t.0) list ((l.exact t.0).0 t.1) in
      Any-contains (λ s. RunsFrom (EndsAt ends) (StepsBy edges) s (c ∷ word) []) list s.0 s.1 ([], t.0, [], s.2, t.2, refl)

  read-back : (list : List ℕ) (c : ℕ) (next word : List ℕ) → ListsAll (StepsFromSome edges list c) next → SomeReads edges ends list (c ∷ word) → SomeReads edges ends next word
  read-back list c next word l a =
      let s = contained (λ s. RunsFrom (EndsAt ends) (StepsBy edges) s (c ∷ word) []) list a in
      let r = s.2 in
      let step = subst (λ k. StepsBy edges s.0 c k r.1) (step-free s.0 c r.0 r.1 r.3) r.3 in
      let rest = subst (RunsFrom (EndsAt ends) (StepsBy edges) r.1 word) (run-free word r.1 r.2 r.4) r.4 in
      let i = (l.exact r.1).1 (Any-contains (λ s. StepsBy edges s c [] r.1) list s.0 s.1 step) in
      Any-contains (λ s. RunsFrom (EndsAt ends) (StepsBy edges) s word []) next r.1 i rest

  step-character-of : (formed : (s t c : ℕ) (k : List ℕ) → StepsBy edges s c k t → c ≤ greatest_character) → (list : List ℕ) (c : ℕ) (word : List ℕ) → SomeReads edges ends list (c ∷ word) → c ≤ greatest_character
  step-character-of formed list c word a =
      let s = contained (λ s. RunsFrom (EndsAt ends) (StepsBy edges) s (c ∷ word) []) list a in
      formed s.0 s.2.1 c s.2.0 s.2.3

  some-next : (list : List ℕ) (word : List ℕ) → SomeReads edges ends list word → list ≡ [] → ⊥
  some-next list word a e = Any-none (λ s. RunsFrom (EndsAt ends) (StepsBy edges) s word []) (subst (λ l. SomeReads edges ends l word) e a)

  module _ (characters : (s t c : ℕ) (k : List ℕ) → StepsBy edges s c k t → c ≤ greatest_character) where
    plain-in : (word list cost : List ℕ) → RunsFrom (SubsetEnds false ends) (SubsetSteps false edges) list word cost → SomeReads edges ends list word × (cost ≡ [])
    plain-in [] list cost r = (r.1, r.0)
    plain-in (c ∷ word) list cost r =
        let rest = plain-in word r.1 r.2 r.4 in
        (read-on list c r.1 word r.3.2 rest.0, r.5 ∙ ap (λ l. add_costs l r.2) r.3.1)

    plain-out : (word list : List ℕ) → SomeReads edges ends list word → RunsFrom (SubsetEnds false ends) (SubsetSteps false edges) list word []
    plain-out [] list a = (refl, a)
    plain-out (c ∷ word) list a =
        let n = next-list edges free list c in
        let back = read-back list c n.0 word n.1 a in
        ([], n.0, [], (step-character-of characters list c word a, refl, n.1, λ e. absurd (some-next n.0 word back e)), plain-out word n.0 back, refl)

    negated-in : (word list cost : List ℕ) → RunsFrom (SubsetEnds true ends) (SubsetSteps true edges) list word cost → IsWord word × (SomeReads edges ends list word → ⊥) × (cost ≡ [])
    negated-in [] list cost r = (tt, r.1, r.0)
    negated-in (c ∷ word) list cost r =
        let rest = negated-in word r.1 r.2 r.4 in
        ((r.3.0, rest.0), λ a. rest.1 (read-back list c r.1 word r.3.2 a), r.5 ∙ ap (λ l. add_costs l r.2) r.3.1)

    negated-out : (word list : List ℕ) → IsWord word → (SomeReads edges ends list word → ⊥) → RunsFrom (SubsetEnds true ends) (SubsetSteps true edges) list word []
    negated-out [] list w a = (refl, a)
    negated-out (c ∷ word) list w a =
        let n = next-list edges free list c in
        ([], n.0, [], (w.0, refl, n.1, λ e. refl), negated-out word n.0 w.1 (λ b. a (read-on list c n.0 word n.1 b)), refl)

-- the start alone reads what the machine reads
start-in : (m : Graph) (word : List ℕ) → SomeReads m.edges m.ends (0 ∷ []) word → Accepts m word []
start-in m word a = elim (Any-cases (λ s. RunsFrom (EndsAt m.ends) (StepsBy m.edges) s word []) 0 [] a) [
  | inl h ↦ h
  | inr h ↦ absurd (Any-none (λ s. RunsFrom (EndsAt m.ends) (StepsBy m.edges) s word []) h)
]

start-out : (m : Graph) (word : List ℕ) → Accepts m word [] → SomeReads m.edges m.ends (0 ∷ []) word
start-out m word h = Any-here (λ s. RunsFrom (EndsAt m.ends) (StepsBy m.edges) s word []) 0 [] h

pub subset-language : (m : Graph) → m.registers ≡ 0 → (negated : Bool) (word cost : List ℕ) → SubsetAccepts negated m word cost ↔ (HasSignedWord negated m word × (cost ≡ []))
subset-language m plain negated = by_case negated
  where
    formed : AreEdgesAndEnds m.states 0 m.edges m.ends
    formed = subst (λ n. AreEdgesAndEnds m.states n m.edges m.ends) plain m.formed

    free : (e : Edge) → Contains m.edges e → e.cost ≡ []
    free = edges-free m.states m.edges m.ends formed

    free_end : (e : End) → Contains m.ends e → e.cost ≡ []
    free_end = ends-free m.states m.edges m.ends formed

    characters : (s t c : ℕ) (k : List ℕ) → StepsBy m.edges s c k t → c ≤ greatest_character
    characters s t c k a = step_character m.states 0 m.edges m.ends formed s t c k a

    by_case : (negated : Bool) (word cost : List ℕ) → SubsetAccepts negated m word cost ↔ (HasSignedWord negated m word × (cost ≡ []))
    by_case false word cost = (
      λ r. let h = plain-in m.edges m.ends free free_end characters word (0 ∷ []) cost r in (start-in m word h.0, h.1),
      λ h. subst (SubsetAccepts false m word) (sym h.1) (plain-out m.edges m.ends free free_end characters word (0 ∷ []) (start-out m word h.0)),
    )
    by_case true word cost = (
      λ r. let h = negated-in m.edges m.ends free free_end characters word (0 ∷ []) cost r in ((h.0, λ a. h.1 (start-out m word a)), h.2),
      λ h. subst (SubsetAccepts true m word) (sym h.1) (negated-out m.edges m.ends free free_end characters word (0 ∷ []) h.0.0 (λ a. h.0.1 (start-in m word a))),
    )

pub subset-deterministic : (negated : Bool) (edges : List Edge) (list next other cost more : List ℕ) (c : ℕ)
    → SubsetSteps negated edges list c cost next → SubsetSteps negated edges list c more other → next ≡ other
subset-deterministic negated edges list next other cost more c p q = lists-same (StepsFromSome edges list c) next other p.2 q.2

pub subset-complete : (m : Graph) → m.registers ≡ 0 → (negated : Bool) → IsTrue negated → (list : List ℕ) (c : ℕ) → c ≤ greatest_character
    → (next : List ℕ) × SubsetSteps negated m.edges list c [] next
subset-complete m plain negated holds list c le =
    let formed = subst (λ n. AreEdgesAndEnds m.states n m.edges m.ends) plain m.formed in
    let n = next-list m.edges (edges-free m.states m.edges m.ends formed) list c in
    (n.0, (le, refl, n.1, λ e. holds))

-- all characters of an interval lead to the same states
module _ (edges : List Edge) (list : List ℕ) (legs : List EdgeRange) (marks hits : List (ℕ × ℕ))
    (leaving : AreLeaving edges list legs) (cut : AreUniformIntervals legs marks) (found : AreHits legs marks hits) where
  same-step : (m : ℕ × ℕ) → Contains marks m → (c d : ℕ) → m.0 ≤ c → c ≤ m.1 → m.0 ≤ d → d ≤ m.1 → (t : ℕ) → StepsFromSome edges list c t → StepsFromSome edges list d t
  same-step m i c d lc hc ld hd t a =
      let s = contained (RangeLeads c t) legs ((leaving.exact c t).1 a) in
      (leaving.exact d t).0 (Any-contains (RangeLeads d t) legs s.0 s.1 (cut.uniform m i s.0 s.1 c d t lc hc ld hd s.2))

  hit-step : (m : ℕ × ℕ) → Contains marks m → (c : ℕ) → m.0 ≤ c → c ≤ m.1 → (t : ℕ) → Contains hits (m.0, t) ↔ StepsFromSome edges list c t
  hit-step m i c l h t =
      let inside = cut.inside m i in
      let self : m.0 ≤ m.0 = omega arith in (
        λ j. same-step m i m.0 c self inside.0 l h t ((leaving.exact m.0 t).0 ((found.exact m.0 t).0 j).1),
        λ a. (found.exact m.0 t).1 (Any-contains (λ (x : ℕ × ℕ). x.0 ≡ m.0) marks m i refl, (leaving.exact m.0 t).1 (same-step m i c m.0 l h self inside.0 t a)),
      )

  pub steps-under : (dead : Bool) (groups : BTreeMap (List ℕ) (List (ℕ × ℕ))) → AreGroups marks hits dead groups → (c : ℕ) (cost to : List ℕ)
      → SubsetSteps dead edges list c cost to ↔ MovesUnder groups c cost to
  steps-under dead groups grouped c cost to = (
    λ s.
        let m = ranges-in marks c (cut.covering c s.0) in
        let f = lists-weaker (StepsFromSome edges list c) (λ t. Contains hits (m.0.0, t)) to (λ t. let h = hit-step m.0 m.1 c m.2.0 m.2.1 t in (h.1, h.0)) s.2 in
        let g = grouped.complete m.0 m.1 to (f, s.3) in
        (g.0, g.1, ranges-out g.0 c m.0 g.2 m.2, s.1),
    λ u.
        let m = ranges-in u.0 c u.2 in
        let g = grouped.sound to u.0 u.1 m.0 m.1 in
        let inside = cut.inside m.0 g.0 in
        let le : c ≤ greatest_character = (let a = m.2.1 in let b = inside.1 in omega arith) in
        let f = lists-weaker (λ t. Contains hits (m.0.0, t)) (StepsFromSome edges list c) to (hit-step m.0 g.0 c m.2.0 m.2.1) g.1.0 in
        (le, u.3, f, g.1.1),
  )

  pub groups-intervals : (dead : Bool) (groups : BTreeMap (List ℕ) (List (ℕ × ℕ))) → AreGroups marks hits dead groups
      → (next : List ℕ) (ms : List (ℕ × ℕ)) → get lists_cmp groups next ≡ Some ms → AreIntervals ms
  groups-intervals dead groups grouped next ms e = record {
    some = grouped.inhabited next ms e;
    inside = λ m i. cut.inside m (grouped.sound next ms e m i).0;
  }

-- what is found on the way to the moves of a list, over plain lists
pub record Parts (edges : List Edge) (list : List ℕ) (legs : List EdgeRange) (marks hits : List (ℕ × ℕ)) : Type 0 where
  pub leaving : AreLeaving edges list legs
  pub cut : AreUniformIntervals legs marks
  pub found : AreHits legs marks hits

pub leaving-from : (m : Graph) → m.registers ≡ 0 → (list given : List ℕ) → given ≡ list → (es : List Edge) → es ≡ m.edges → (ps : List ℕ) → ps ≡ places_from_some m.edges given
    → (legs : List EdgeRange) → legs ≡ flat_map legs_of (pick es ps) → AreLeaving m.edges list legs
leaving-from m plain list given at es edges ps places legs f =
    let formed = subst (λ n. AreEdgesAndEnds m.states n m.edges m.ends) plain m.formed in
    let same : pick es ps ≡ edges_from_some m.edges list = ap (λ l. pick l ps) edges ∙ ap (pick m.edges) (places ∙ ap (places_from_some m.edges) at) in
    subst (AreLeaving m.edges list) (sym (f ∙ ap (flat_map legs_of) same)) (leaving-made m.edges list (edges-free m.states m.edges m.ends formed))

pub parts-from : (edges : List Edge) (list : List ℕ) (legs cut_legs hit_legs : List EdgeRange) (marks marks' hits : List (ℕ × ℕ))
    → AreLeaving edges list legs → cut_legs ≡ legs → AreUniformIntervals cut_legs marks → hit_legs ≡ legs → marks' ≡ marks → AreHits hit_legs marks' hits → Parts edges list legs marks hits
parts-from edges list legs cut_legs hit_legs marks marks' hits leaving a cut b d found = record {
  leaving = leaving;
  cut = subst (λ l. AreUniformIntervals l marks) a cut;
  found = subst (λ l. AreHits l marks hits) b (subst (λ l. AreHits hit_legs l hits) d found);
}

pub grouped-from : (marks marks' hits hits' : List (ℕ × ℕ)) (dead : Bool) (groups : BTreeMap (List ℕ) (List (ℕ × ℕ))) → marks' ≡ marks → hits' ≡ hits
    → AreGroups marks' hits' dead groups → AreGroups marks hits dead groups
grouped-from marks marks' hits hits' dead groups a b g = subst (λ l. AreGroups l hits dead groups) a (subst (λ l. AreGroups marks' l dead groups) b g)

-- the costs at which a word may end: none, or the empty one
pub ends-some : (negated told : Bool) (ends : List End) (list : List ℕ) (costs : List (List ℕ)) → (IsTrue told ↔ EndsInSome ends list) → not (beq told negated) ≡ true → costs ≡ [] ∷ []
    → (cost : List ℕ) → SubsetEnds negated ends list cost ↔ Any (λ e. e ≡ cost) costs
ends-some negated told ends list costs says differ e cost = (
  λ s. subst (Any (λ e. e ≡ cost)) (sym e) (Any-here (λ e. e ≡ cost) [] [] (sym s.0)),
  λ a. elim (Any-cases (λ e. e ≡ cost) [] [] (subst (Any (λ e. e ≡ cost)) e a)) [
    | inl h ↦ (sym h, may negated told says differ)
    | inr h ↦ absurd (Any-none (λ e. e ≡ cost) h)
  ],
)
  where
    may : (negated told : Bool) → (IsTrue told ↔ EndsInSome ends list) → not (beq told negated) ≡ true → MayEnd negated ends list
    may false false says differ = absurd (cc)
    may false true says differ = says.0 refl
    may true false says differ = λ h. let e = says.1 h in cc
    may true true says differ = absurd (cc)

pub ends-none-of : (negated told : Bool) (ends : List End) (list : List ℕ) (costs : List (List ℕ)) → (IsTrue told ↔ EndsInSome ends list) → not (beq told negated) ≡ false → costs ≡ []
    → (cost : List ℕ) → SubsetEnds negated ends list cost ↔ Any (λ e. e ≡ cost) costs
ends-none-of negated told ends list costs says same e cost = (
  λ s. absurd (never negated told says same s.1),
  λ a. absurd (Any-none (λ e. e ≡ cost) (subst (Any (λ e. e ≡ cost)) e a)),
)
  where
    never : (negated told : Bool) → (IsTrue told ↔ EndsInSome ends list) → not (beq told negated) ≡ false → MayEnd negated ends list → ⊥
    never false false says same h = let e = says.1 h in cc
    never false true says same h = cc
    never true false says same h = cc
    never true true says same h = h (says.0 refl)

pub some-in : {X : Type 0} (xs : List X) → nat_eq (length xs) 0 ≡ false → (x : X) × Contains xs x
some-in [] e = cc
some-in (x ∷ xs) e = (x, Contains-here x xs)
