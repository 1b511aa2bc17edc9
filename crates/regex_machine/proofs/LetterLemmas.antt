-- The words of small machines, by their lists of edges and ends.
use Rattle.std.proofs.Common.{◌≡◌, ℕ, zero, suc, ◌+◌, ◌<◌, ◌≤◌, ◌↔◌, ◌⊎◌, inl, inr, ◌&&◌, IsTrue, nat_le, List, [], ◌∷◌, ◌++◌, length, drop, slice_get, Some, Any, refl, ap, sym, ◌∙◌, subst, arith, min}
use Rattle.std.proofs.lemmas.Bool.Decides.{nat_tests}
use Rattle.std.proofs.lemmas.Option.{slice_get_within}
use Rattle.sv_word.specs.Ranges.{in_ranges}
use Rattle.sv_word.specs.Words.{IsWord, greatest_character}
use Rattle.machine_core.specs.declared.graph.Graph.{Graph}
use Rattle.machine_core.specs.declared.edge.Edge.{Edge}
use Rattle.machine_core.specs.declared.end.End.{End}
use Rattle.machine_core.specs.Language.{RunsFrom}
use Rattle.machine_core.specs.Edges.{edge, ending, move_of, EndsAt, StepsBy}
use Rattle.machine_core.specs.Moves.{Moves}
use Rattle.sv_list.specs.Lists.{Any-none, Any-here, Any-cases, Any-push_cases, Any-append_left, Any-append_right, below_next-cases, drop-found}
use Rattle.sv_terms.specs.Language.{Word}
use Rattle.regex_machine.specs.Joined.{HasWords}
use Rattle.regex_machine.specs.Laws.{drop-get}

-- the one edge and the one end of a list
abbrev IsStep : ℕ → List (ℕ × ℕ) → ℕ → ℕ → ℕ → List ℕ → ℕ → Type 0
IsStep s on t from c cost to = (s ≡ from) × IsTrue (in_ranges on c) × ([] ≡ cost) × (t ≡ to)

one-step : (s : ℕ) (on : List (ℕ × ℕ)) (t from c : ℕ) (cost : List ℕ) (to : ℕ) → StepsBy (edge s on [] t ∷ []) from c cost to → IsStep s on t from c cost to
one-step s on t from c cost to h =
    let P : Edge → Type 0 = λ e. (e.from ≡ from) × Moves c cost to (move_of e) in
    elim (Any-cases P (edge s on [] t) [] h) [ inl p ↦ (p.0, p.1.0, p.1.1, p.1.2) | inr none ↦ absurd (Any-none P none) ]

step-one : (s : ℕ) (on : List (ℕ × ℕ)) (t c : ℕ) → IsTrue (in_ranges on c) → StepsBy (edge s on [] t ∷ []) s c [] t
step-one s on t c h =
    let P : Edge → Type 0 = λ e. (e.from ≡ s) × Moves c [] t (move_of e) in
    Any-here P (edge s on [] t) [] (refl, (h, refl, refl))

one-end : (s at : ℕ) (cost : List ℕ) → EndsAt (ending s [] ∷ []) at cost → (s ≡ at) × ([] ≡ cost)
one-end s at cost h =
    let P : End → Type 0 = λ e. (e.at ≡ at) × (e.cost ≡ cost) in
    elim (Any-cases P (ending s []) [] h) [ inl p ↦ p | inr none ↦ absurd (Any-none P none) ]

end-one : (s : ℕ) → EndsAt (ending s [] ∷ []) s []
end-one s =
    let P : End → Type 0 = λ e. (e.at ≡ s) × (e.cost ≡ []) in
    Any-here P (ending s []) [] (refl, refl)

no-ends : (S : ℕ → ℕ → List ℕ → ℕ → Type 0) (w : Word) (s : ℕ) (cost : List ℕ) → RunsFrom (EndsAt []) S s w cost → ⊥
no-ends S [] s cost r = Any-none (λ (e : End). (e.at ≡ s) × (e.cost ≡ cost)) r
no-ends S (c ∷ w) s cost r = no-ends S w r.1 r.2 r.4

pub nothing-reads : (m : Graph) → m.registers ≡ 0 → m.ends ≡ [] → HasWords (λ w. ⊥) m
nothing-reads m plain none = record {
  plain = plain;
  words = λ w. (λ h. no-ends (StepsBy m.edges) w 0 [] (subst (λ l. RunsFrom (EndsAt l) (StepsBy m.edges) 0 w []) none h), λ h. absurd h);
}

module _ (on : List (ℕ × ℕ)) (all : (c : ℕ) → in_ranges on c ≡ nat_le c greatest_character) where
  abbrev Every : ℕ → Word → List ℕ → Type 0
  Every s w cost = RunsFrom (EndsAt (ending 0 [] ∷ [])) (StepsBy (edge 0 on [] 0 ∷ [])) s w cost

  character : (c : ℕ) → IsTrue (in_ranges on c) → c ≤ greatest_character
  character c h = let e = all c in grind (arith, nat_tests)

  in-all : (c : ℕ) → c ≤ greatest_character → IsTrue (in_ranges on c)
  in-all c h = let e = all c in grind (arith, nat_tests)

  every-out : (w : Word) (s : ℕ) (cost : List ℕ) → Every s w cost → IsWord w
  every-out [] s cost r = tt
  every-out (c ∷ w) s cost r = (character c (one-step 0 on 0 s c r.0 r.1 r.3).1, every-out w r.1 r.2 r.4)

  every-in : (w : Word) → IsWord w → Every 0 w []
  every-in [] h = end-one 0
  every-in (c ∷ w) h = ([], 0, [], step-one 0 on 0 c (in-all c h.0), every-in w h.1, refl)

  pub everything-reads : (m : Graph) → m.registers ≡ 0 → m.edges ≡ edge 0 on [] 0 ∷ [] → m.ends ≡ ending 0 [] ∷ [] → HasWords IsWord m
  everything-reads m plain edges ends = record {
    plain = plain;
    words = λ w. (
      λ h. every-out w 0 [] (subst (λ l. RunsFrom (EndsAt l) (StepsBy (edge 0 on [] 0 ∷ [])) 0 w []) ends (subst (λ l. RunsFrom (EndsAt m.ends) (StepsBy l) 0 w []) edges h)),
      λ h. subst (λ l. RunsFrom (EndsAt m.ends) (StepsBy l) 0 w []) (sym edges) (subst (λ l. RunsFrom (EndsAt l) (StepsBy (edge 0 on [] 0 ∷ [])) 0 w []) (sym ends) (every-in w h)),
    );
  }

-- one edge and one end, added to empty lists
pub only-edge : (old new : List Edge) (s : ℕ) (on : List (ℕ × ℕ)) (cost : List ℕ) (t : ℕ) → new ≡ old ++ edge s on cost t ∷ [] → old ≡ [] → cost ≡ [] → new ≡ edge s on [] t ∷ []
only-edge old new s on cost t e none free = e ∙ ap (λ l. l ++ edge s on cost t ∷ []) none ∙ ap (λ k. edge s on k t ∷ []) free

pub only-end : (old new : List End) (s : ℕ) (cost : List ℕ) → new ≡ old ++ ending s cost ∷ [] → old ≡ [] → cost ≡ [] → new ≡ ending s [] ∷ []
only-end old new s cost e none free = e ∙ ap (λ l. l ++ ending s cost ∷ []) none ∙ ap (λ k. ending s k ∷ []) free

-- one character
module _ (on : List (ℕ × ℕ)) where
  abbrev OneOf : Word → Type 0
  OneOf w = (c : ℕ) × IsTrue (in_ranges on c) × (w ≡ c ∷ [])

  abbrev Single : ℕ → Word → List ℕ → Type 0
  Single s w cost = RunsFrom (EndsAt (ending 1 [] ∷ [])) (StepsBy (edge 0 on [] 1 ∷ [])) s w cost

  stopped : (w : Word) (cost : List ℕ) → Single 1 w cost → w ≡ []
  stopped [] cost r = refl
  stopped (c ∷ w) cost r = (let e : ◌≡◌ {A = ℕ} 0 1 = (one-step 0 on 1 1 c r.0 r.1 r.3).0 in absurd (omega arith))

  single-out : (w : Word) → Single 0 w [] → OneOf w
  single-out [] r = (let e : ◌≡◌ {A = ℕ} 1 0 = (one-end 1 0 [] r).0 in absurd (omega arith))
  single-out (c ∷ w) r =
      let st = one-step 0 on 1 0 c r.0 r.1 r.3 in
      (c, st.1, ap (λ l. c ∷ l) (stopped w r.2 (subst (λ s. Single s w r.2) (sym st.3) r.4)))

  single-in : (w : Word) → OneOf w → Single 0 w []
  single-in w h = subst (λ l. Single 0 l []) (sym h.2) ([], 1, [], step-one 0 on 1 h.0 h.1, end-one 1, refl)

  pub one_of-reads : (m : Graph) → m.registers ≡ 0 → m.edges ≡ edge 0 on [] 1 ∷ [] → m.ends ≡ ending 1 [] ∷ [] → HasWords (λ w. (c : ℕ) × IsTrue (in_ranges on c) × (w ≡ c ∷ [])) m
  one_of-reads m plain edges ends = record {
    plain = plain;
    words = λ w. (
      λ h. single-out w (subst (λ l. RunsFrom (EndsAt l) (StepsBy (edge 0 on [] 1 ∷ [])) 0 w []) ends (subst (λ l. RunsFrom (EndsAt m.ends) (StepsBy l) 0 w []) edges h)),
      λ h. subst (λ l. RunsFrom (EndsAt m.ends) (StepsBy l) 0 w []) (sym edges) (subst (λ l. RunsFrom (EndsAt l) (StepsBy (edge 0 on [] 1 ∷ [])) 0 w []) (sym ends) (single-in w h)),
    );
  }

  pub none_of-reads : on ≡ [] → (m : Graph) → HasWords (λ w. ⊥) m → HasWords (λ w. (c : ℕ) × IsTrue (in_ranges on c) × (w ≡ c ∷ [])) m
  none_of-reads e m r = record {
    plain = r.plain;
    words = λ w. (λ h. absurd ((r.words w).0 h), λ h. absurd (no-character h.0 (subst (λ l. IsTrue (in_ranges l h.0)) e h.1)));
  }
    where
      no-character : (c : ℕ) → IsTrue (in_ranges [] c) → ⊥
      no-character c h = cc

-- the steps of the first characters of a word, from state to state
abbrev pub SpellSteps : Word → ℕ → ℕ → ℕ → List ℕ → ℕ → Type 0
SpellSteps word n s c cost t = (s < n) × (slice_get word s ≡ Some c) × (cost ≡ []) × (t ≡ s + 1)

-- the edges are those of the first characters
abbrev pub Spells : Word → ℕ → List Edge → Type 0
Spells word n edges = (s c : ℕ) (cost : List ℕ) (t : ℕ) → StepsBy edges s c cost t ↔ SpellSteps word n s c cost t

pub spells-none : (word : Word) (edges : List Edge) → edges ≡ [] → Spells word 0 edges
spells-none word edges e s c cost t =
    let P : Edge → Type 0 = λ x. (x.from ≡ s) × Moves c cost t (move_of x) in
    (λ h. absurd (Any-none P (subst (Any P) e h)), λ h. absurd (omega arith))

pub spells-more : (word : Word) (n c0 : ℕ) (on : List (ℕ × ℕ)) (old new : List Edge) → slice_get word n ≡ Some c0
    → ((c : ℕ) → in_ranges on c ≡ (nat_le c0 c && nat_le c c0)) → new ≡ old ++ edge n on [] (n + 1) ∷ [] → Spells word n old → Spells word (n + 1) new
spells-more word n c0 on old new at set e g s c cost t =
    let P : Edge → Type 0 = λ x. (x.from ≡ s) × Moves c cost t (move_of x) in
    let x = edge n on [] (n + 1) in (
      λ h. elim (Any-push_cases P old x (subst (Any P) e h)) [
        | inl a ↦ (let r = (g s c cost t).0 a in (omega arith, r.1, r.2, r.3))
        | inr p ↦ (below n s p.0, subst (λ k. slice_get word k ≡ Some c) p.0 (subst (λ d. slice_get word n ≡ Some d) (only c p.1.0) at), sym p.1.1, sym p.1.2 ∙ ap (λ k. k + 1) p.0)
      ],
      λ h. subst (Any P) (sym e) (by_place (below_next-cases s n h.0) h),
    )
  where
    below : (n s : ℕ) → n ≡ s → s < n + 1
    below n s e = omega arith

    only : (c : ℕ) → IsTrue (in_ranges on c) → c0 ≡ c
    only c h = let e = set c in grind (arith, nat_tests)

    reads : IsTrue (in_ranges on c0)
    reads = let e = set c0 in grind (arith, nat_tests)

    by_place : (s < n) ⊎ (s ≡ n) → SpellSteps word (n + 1) s c cost t → StepsBy (old ++ edge n on [] (n + 1) ∷ []) s c cost t
    by_place (inl lt) h =
        let P : Edge → Type 0 = λ x. (x.from ≡ s) × Moves c cost t (move_of x) in
        Any-append_left P old (edge n on [] (n + 1) ∷ []) ((g s c cost t).1 (lt, h.1, h.2, h.3))
    by_place (inr back) h =
        let same : n ≡ s = sym back in
        let P : Edge → Type 0 = λ x. (x.from ≡ s) × Moves c cost t (move_of x) in
        let d : c0 ≡ c = (let f = subst (λ k. slice_get word k ≡ Some c0) same at in let k = h.1 in cc) in
        Any-append_right P old (edge n on [] (n + 1) ∷ []) (Any-here P (edge n on [] (n + 1)) [] (same, (subst (λ k. IsTrue (in_ranges on k)) d reads, sym h.2, ap (λ k. k + 1) same ∙ sym h.3)))

module _ (word : Word) (edges : List Edge) (spells : Spells word (length word) edges) where
  abbrev Spelling : ℕ → Word → List ℕ → Type 0
  Spelling s w cost = RunsFrom (EndsAt (ending (length word) [] ∷ [])) (StepsBy edges) s w cost

  all-dropped : (xs : Word) → drop (length xs) xs ≡ []
  all-dropped [] = refl
  all-dropped (x ∷ xs) = all-dropped xs

  spelling-out : (w : Word) (s : ℕ) (cost : List ℕ) → Spelling s w cost → w ≡ drop s word
  spelling-out [] s cost r = sym (subst (λ k. drop k word ≡ []) (one-end (length word) s cost r).0 (all-dropped word))
  spelling-out (c ∷ w) s cost r =
      let st = (spells s c r.0 r.1).0 r.3 in
      let next : r.1 ≡ suc s = st.3 ∙ (omega arith) in
      ap (λ l. c ∷ l) (spelling-out w r.1 r.2 r.4 ∙ ap (λ k. drop k word) next) ∙ sym (drop-found word s c st.1)

  at-end : (xs : Word) (s : ℕ) → s ≤ length xs → drop s xs ≡ [] → length xs ≡ s
  at-end [] zero h e = refl
  at-end [] (suc s) h e = absurd (omega arith)
  at-end (x ∷ xs) zero h e = cc
  at-end (x ∷ xs) (suc s) h e = ap suc (at-end xs s (omega arith) e)

  spelling-in : (w : Word) (s : ℕ) → s ≤ length word → w ≡ drop s word → Spelling s w []
  spelling-in [] s h e = subst (λ k. EndsAt (ending (length word) [] ∷ []) k []) (at-end word s h (sym e)) (end-one (length word))
  spelling-in (c ∷ w) s h e =
      let d = drop-get word s c w (sym e) in
      let lt = slice_get_within word s c d.0 in
      let next : suc s ≡ s + 1 = omega arith in
      ([], s + 1, [], (spells s c [] (s + 1)).1 (lt, d.0, refl, refl), spelling-in w (s + 1) (omega arith) (sym d.1 ∙ ap (λ k. drop k word) next), refl)

  pub text-reads : IsWord word → (m : Graph) → m.registers ≡ 0 → m.edges ≡ edges → m.ends ≡ ending (length word) [] ∷ [] → HasWords (λ w. (w ≡ word) × IsWord w) m
  text-reads ok m plain same ends = record {
    plain = plain;
    words = λ w. (
      λ h. let e = spelling-out w 0 [] (subst (λ l. RunsFrom (EndsAt l) (StepsBy edges) 0 w []) ends (subst (λ l. RunsFrom (EndsAt m.ends) (StepsBy l) 0 w []) same h)) in (e, subst IsWord (sym e) ok),
      λ h. subst (λ l. RunsFrom (EndsAt m.ends) (StepsBy l) 0 w []) (sym same) (subst (λ l. RunsFrom (EndsAt l) (StepsBy edges) 0 w []) (sym ends) (spelling-in w 0 (omega arith) h.0)),
    );
  }

pub character-at : (word : Word) (k c : ℕ) → IsWord word → slice_get word k ≡ Some c → c ≤ greatest_character
character-at [] k c h e = cc
character-at (x ∷ xs) zero c h e = (let f : x ≡ c = cc in subst (λ n. n ≤ greatest_character) f h.0)
character-at (x ∷ xs) (suc k) c h e = character-at xs k c h.1 e

-- the characters from `lo` to `hi`, cut off at the last character
pub range-words : (lo hi top : ℕ) (on : List (ℕ × ℕ)) → top ≡ min hi greatest_character → ((c : ℕ) → in_ranges on c ≡ (nat_le lo c && nat_le c top))
    → (w : Word) → ((c : ℕ) × IsTrue (in_ranges on c) × (w ≡ c ∷ [])) ↔ ((c : ℕ) × (lo ≤ c) × (c ≤ hi) × (c ≤ greatest_character) × (w ≡ c ∷ []))
range-words lo hi top on cut set w = (
  λ h. let b = bounds h.0 h.1 in (h.0, b.0, b.1, b.2, h.2),
  λ h. (h.0, inside h.0 h.1 h.2 h.3, h.4),
)
  where
    bounds : (c : ℕ) → IsTrue (in_ranges on c) → (lo ≤ c) × (c ≤ hi) × (c ≤ greatest_character)
    bounds c h =
        let e = set c in
        let low : lo ≤ c = grind (arith, nat_tests) in
        let high : c ≤ top = grind (arith, nat_tests) in
        (low, omega arith, omega arith)

    inside : (c : ℕ) → lo ≤ c → c ≤ hi → c ≤ greatest_character → IsTrue (in_ranges on c)
    inside c a b d =
        let e = set c in
        let high : c ≤ top = omega arith in
        grind (arith, nat_tests)

-- the empty word alone
pub only-empty : (P : Word → Type 0) → ((w : Word) → P w ↔ (w ≡ [])) → (m : Graph) → HasWords (λ w. (w ≡ []) × IsWord w) m → HasWords P m
only-empty P same m r = record {
  plain = r.plain;
  words = λ w. (λ h. (same w).1 ((r.words w).0 h).0, λ h. let e = (same w).0 h in (r.words w).1 (e, subst IsWord (sym e) tt));
}

pub at-most : (n m : ℕ) → n ≡ m → n ≤ m
at-most n m e = omega arith

pub has-second : (n : ℕ) → n ≡ 2 → 1 < n
has-second n e = omega arith

-- the states of a word's machine: one for each place, and one behind the word
pub place-below : (place n states : ℕ) → place < n → states ≡ n + 1 → place < states
place-below place n states lt e = omega arith

pub next-below : (place n states : ℕ) → place < n → states ≡ n + 1 → place + 1 < states
next-below place n states lt e = omega arith

pub last-below : (n states : ℕ) → states ≡ n + 1 → n < states
last-below n states e = omega arith
