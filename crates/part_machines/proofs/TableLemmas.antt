-- The edges of rows, and the words of a machine by a table.
use Rattle.std.proofs.Common.{◌≡◌, ℕ, zero, suc, ◌+◌, ◌-◌, ◌<◌, ◌≤◌, ◌↔◌, ◌⊎◌, inl, inr, ⊎_elim, max, Bool, true, false, ◌&&◌, nat_le, if◌then◌else◌, IsTrue, List, [], ◌∷◌, ◌++◌, length, drop, get_or, slice_get, Some, Any, refl, sym, ap, ◌∙◌, subst, arith}
use Rattle.std.specs.Prelude.{nat_eq, nat_lt, not}
use Rattle.std.proofs.Math.Bool.{beq}
use Rattle.std.specs.List.{AllByRecursion}
use Rattle.std.proofs.lemmas.Bool.{eqb-true, eq-eqb, false_from_ne_true}
use Rattle.std.proofs.lemmas.Bool.Decides.{nat_tests}
use Rattle.std.proofs.lemmas.List.{drop_more}
use Rattle.replace_machines.proofs.RowLemmas.{less_or_not}
use Rattle.sv_word.specs.Ranges.{in_ranges}
use Rattle.sv_word.specs.Words.{IsWord, greatest_character}
use Rattle.sv_terms.specs.Language.{Word}
use Rattle.machine_core.specs.declared.graph.Graph.{Graph}
use Rattle.machine_core.specs.declared.edge.Edge.{Edge}
use Rattle.machine_core.specs.declared.end.End.{End}
use Rattle.machine_core.specs.Language.{RunsFrom}
use Rattle.machine_core.specs.Edges.{edge, ending, move_of, EndsAt, StepsBy}
use Rattle.machine_core.specs.Moves.{Moves}
use Rattle.sv_list.specs.Lists.{Any-none, Any-here, Any-push_cases, Any-append_left, Any-append_right}
use Rattle.part_machines.specs.declared.table.TableLeg.{TableLeg}
use Rattle.part_machines.specs.declared.table.TableRow.{TableRow}
use Rattle.part_machines.specs.Parts.{Decides}
use Rattle.part_machines.specs.Tables.{IsEndState, IsOfTable, IsRow, StepsAlong, StepsOfRow, after, lead, lead_by, next}

-- no edge is added
or-none : {A B : Type 0} → (B → ⊥) → A ↔ (A ⊎ B)
or-none never = (λ a. inl a, λ h. elim h [ inl a ↦ a | inr b ↦ absurd (never b) ])

pub no-character : (at start stop to states : ℕ) (E : List Edge) → stop ≤ start → (s c : ℕ) (cost : List ℕ) (t : ℕ) → StepsBy E s c cost t ↔ (StepsBy E s c cost t ⊎ StepsAlong at start stop to states s c cost t)
no-character at start stop to states E h s c cost t = or-none (λ b. let x = b.1 in let y = b.2 in omega (arith, x, y, h))

pub no-state : (at start stop to states : ℕ) (E : List Edge) → states ≤ to → (s c : ℕ) (cost : List ℕ) (t : ℕ) → StepsBy E s c cost t ↔ (StepsBy E s c cost t ⊎ StepsAlong at start stop to states s c cost t)
no-state at start stop to states E h s c cost t = or-none (λ b. let x = b.4 in let y = b.5 in omega (arith, x, y, h))

-- an edge is added
pub leg-added : (at start stop to states : ℕ) (on : List (ℕ × ℕ)) (free : List ℕ) (old new : List Edge) → start < stop → to < states → ((c : ℕ) → in_ranges on c ≡ (nat_le start c && nat_le c (stop - 1)))
    → free ≡ [] → new ≡ old ++ edge at on free to ∷ [] → (s c : ℕ) (cost : List ℕ) (t : ℕ) → StepsBy new s c cost t ↔ (StepsBy old s c cost t ⊎ StepsAlong at start stop to states s c cost t)
leg-added at start stop to states on free old new some among set none is s c cost t =
    let P : Edge → Type 0 = λ e. (e.from ≡ s) × Moves c cost t (move_of e) in
    let added = edge at on free to in
    let bounds : IsTrue (in_ranges on c) → (start ≤ c) × (c < stop) = λ r. (let e = set c in (grind (arith, nat_tests), grind (arith, nat_tests))) in
    let inside : start ≤ c → c < stop → IsTrue (in_ranges on c) = λ a b. (let e = set c in grind (arith, nat_tests)) in (
      λ h. elim (Any-push_cases P old added (subst (Any P) is h)) [
        | inl a ↦ inl a
        | inr p ↦ (let b = bounds p.1.0 in inr (p.0, b.0, b.1, sym none ∙ p.1.1, p.1.2, subst (λ n. n < states) p.1.2 among))
      ],
      λ h. subst (Any P) (sym is) (elim h [
        | inl a ↦ Any-append_left P old (added ∷ []) a
        | inr b ↦ Any-append_right P old (added ∷ []) (Any-here P added [] (b.0, (inside b.1 b.2, none ∙ b.3, b.4)))
      ]),
    )

-- the last character of those below `stop`
pub last-below : (start stop : ℕ) → start < stop → start ≤ stop - 1
last-below start stop h = omega arith

pub last-fits : (stop : ℕ) → stop ≤ greatest_character + 1 → stop - 1 ≤ greatest_character
last-fits stop h = omega arith

-- what a row has left
pub lead-here : (rest : ℕ) (l : TableLeg) (legs : List TableLeg) (c : ℕ) → c < l.stop → lead rest (l ∷ legs) c ≡ l.to
lead-here rest l legs c h = ⊎_elim (λ a. ap (λ b. if b then l.to else lead rest legs c) a.1) (λ b. let x = b.0 in absurd (omega (arith, x, h))) (less_or_not c l.stop)

pub lead-later : (rest : ℕ) (l : TableLeg) (legs : List TableLeg) (c : ℕ) → l.stop ≤ c → lead rest (l ∷ legs) c ≡ lead rest legs c
lead-later rest l legs c h = ⊎_elim (λ a. let x = a.0 in absurd (omega (arith, x, h))) (λ b. ap (λ t. if t then l.to else lead rest legs c) b.1) (less_or_not c l.stop)

-- what a row says up to where its first legs stop, and that the legs that are left say the rest
pub record IsLed (old new : List Edge) (at : ℕ) (row : TableRow) (start states : ℕ) (left : List TableLeg) : Type 0 where
  pub steps : (s c : ℕ) (cost : List ℕ) (t : ℕ) → StepsBy new s c cost t ↔ (StepsBy old s c cost t ⊎ StepsOfRow at row start states s c cost t)
  pub rest : (c : ℕ) → start ≤ c → lead row.rest row.legs c ≡ lead row.rest left c
  pub bound : start ≤ greatest_character + 1

pub led-first : (E : List Edge) (at : ℕ) (row : TableRow) (states : ℕ) → IsLed E E at row 0 states row.legs
led-first E at row states = record {
  steps = λ s c cost t. or-none (λ b. let x = b.1 in omega (arith, x));
  rest = λ c h. refl;
  bound = omega arith;
}

-- up to the next stop, all characters lead to one state
led-up : {A0 A1 A2 : Type 0} (at : ℕ) (row : TableRow) (states start stop to s c : ℕ) (cost : List ℕ) (t : ℕ) → ((d : ℕ) → start ≤ d → d < stop → lead row.rest row.legs d ≡ to)
    → A1 ↔ (A0 ⊎ StepsOfRow at row start states s c cost t) → A2 ↔ (A1 ⊎ StepsAlong at start stop to states s c cost t) → A2 ↔ (A0 ⊎ StepsOfRow at row (max start stop) states s c cost t)
led-up at row states start stop to s c cost t leads one two = (
  λ a. elim (two.0 a) [
    | inl b ↦ elim (one.0 b) [ inl z ↦ inl z | inr r ↦ inr (r.0, (let x = r.1 in omega (arith, x)), r.2, r.3, r.4) ]
    | inr g ↦ inr (g.0, (let x = g.2 in omega (arith, x)), g.3, leads c g.1 g.2 ∙ g.4, g.5)
  ],
  λ h. two.1 (elim h [
    | inl z ↦ inl (one.1 (inl z))
    | inr r ↦ ⊎_elim
        (λ l. inl (one.1 (inr (r.0, l.0, r.2, r.3, r.4))))
        (λ m. let below : c < stop = (let x = r.1 in let y = m.0 in omega (arith, x, y)) in inr (r.0, m.0, below, r.2, sym (leads c m.0 below) ∙ r.3, r.4))
        (less_or_not c start)
  ]),
)

pub led-more : (old mid new : List Edge) (at : ℕ) (row : TableRow) (start states : ℕ) (l : TableLeg) (left : List TableLeg) → l.stop ≤ greatest_character + 1 → IsLed old mid at row start states (l ∷ left)
    → ((s c : ℕ) (cost : List ℕ) (t : ℕ) → StepsBy new s c cost t ↔ (StepsBy mid s c cost t ⊎ StepsAlong at start l.stop l.to states s c cost t)) → IsLed old new at row (max start l.stop) states left
led-more old mid new at row start states l left within h added = record {
  steps = λ s c cost t. led-up at row states start l.stop l.to s c cost t (λ d a b. h.rest d a ∙ lead-here row.rest l left d b) (h.steps s c cost t) (added s c cost t);
  rest = λ c a. h.rest c (omega (arith, a)) ∙ lead-later row.rest l left c (omega (arith, a));
  bound = (let x = h.bound in omega (arith, x, within));
}

pub led-last : (old mid new : List Edge) (at : ℕ) (row : TableRow) (start states : ℕ) → IsLed old mid at row start states []
    → ((s c : ℕ) (cost : List ℕ) (t : ℕ) → StepsBy new s c cost t ↔ (StepsBy mid s c cost t ⊎ StepsAlong at start (greatest_character + 1) row.rest states s c cost t))
    → (s c : ℕ) (cost : List ℕ) (t : ℕ) → StepsBy new s c cost t ↔ (StepsBy old s c cost t ⊎ StepsOfRow at row (greatest_character + 1) states s c cost t)
led-last old mid new at row start states h added s c cost t =
    let top : max start (greatest_character + 1) ≡ greatest_character + 1 = (let x = h.bound in omega (arith, x)) in
    subst (λ n. StepsBy new s c cost t ↔ (StepsBy old s c cost t ⊎ StepsOfRow at row n states s c cost t)) top
    (led-up at row states start (greatest_character + 1) row.rest s c cost t (λ d a b. h.rest d a) (h.steps s c cost t) (added s c cost t))

stop-within : (legs : List TableLeg) (i : ℕ) (d : TableLeg) → AllByRecursion (λ (x : TableLeg). x.stop ≤ greatest_character + 1) legs → i < length legs → (get_or legs i d).stop ≤ greatest_character + 1
stop-within [] i d h lt = absurd (omega (arith, lt))
stop-within (x ∷ legs) zero d h lt = h.0
stop-within (x ∷ legs) (suc i) d h lt = stop-within legs i d h.1 (omega (arith, lt))

drop_all : (legs : List TableLeg) (i : ℕ) → length legs ≤ i → drop i legs ≡ []
drop_all [] zero h = refl
drop_all [] (suc i) h = refl
drop_all (x ∷ legs) zero h = absurd (omega (arith, h))
drop_all (x ∷ legs) (suc i) h = drop_all legs i (omega (arith, h))

-- the turn of a leg
pub led-turn : (old mid new : List Edge) (at : ℕ) (row : TableRow) (start states i : ℕ) (d l : TableLeg) → i < length row.legs → l ≡ get_or row.legs i d → IsRow row → IsLed old mid at row start states (drop i row.legs)
    → ((s c : ℕ) (cost : List ℕ) (t : ℕ) → StepsBy new s c cost t ↔ (StepsBy mid s c cost t ⊎ StepsAlong at start l.stop l.to states s c cost t)) → IsLed old new at row (max start l.stop) states (drop (i + 1) row.legs)
led-turn old mid new at row start states i d l lt is formed h added =
    let left : drop i row.legs ≡ l ∷ drop (i + 1) row.legs = drop_more row.legs i d lt ∙ ap (λ x. x ∷ drop (i + 1) row.legs) (sym is) in
    led-more old mid new at row start states l (drop (i + 1) row.legs) (subst (λ (x : TableLeg). x.stop ≤ greatest_character + 1) (sym is) (stop-within row.legs i d formed lt)) (subst (IsLed old mid at row start states) left h) added

pub led-all : (old mid new : List Edge) (at : ℕ) (row : TableRow) (start states i : ℕ) → length row.legs ≤ i → IsLed old mid at row start states (drop i row.legs)
    → ((s c : ℕ) (cost : List ℕ) (t : ℕ) → StepsBy new s c cost t ↔ (StepsBy mid s c cost t ⊎ StepsAlong at start (greatest_character + 1) row.rest states s c cost t))
    → (s c : ℕ) (cost : List ℕ) (t : ℕ) → StepsBy new s c cost t ↔ (StepsBy old s c cost t ⊎ StepsOfRow at row (greatest_character + 1) states s c cost t)
led-all old mid new at row start states i past h added = led-last old mid new at row start states (subst (IsLed old mid at row start states) (drop_all row.legs i past) h) added

pub led-loop : (old : List Edge) (m n : Graph) (at : ℕ) (row : TableRow) (start states i stop : ℕ) (legs : List TableLeg) (d : TableLeg) → legs ≡ row.legs → i < length legs → m.states ≡ states → stop ≡ max start (get_or legs i d).stop → IsRow row
    → IsLed old m.edges at row start states (drop i row.legs)
    → ((s c : ℕ) (cost : List ℕ) (t : ℕ) → StepsBy n.edges s c cost t ↔ (StepsBy m.edges s c cost t ⊎ StepsAlong at start (get_or legs i d).stop (get_or legs i d).to m.states s c cost t))
    → IsLed old n.edges at row stop states (drop (i + 1) row.legs)
led-loop old m n at row start states i stop legs d same lt size top formed h added =
    subst (λ k. IsLed old n.edges at row k states (drop (i + 1) row.legs)) (sym (top ∙ ap (λ (l : List TableLeg). max start (get_or l i d).stop) same))
    (led-turn old m.edges n.edges at row start states i d (get_or row.legs i d) (subst (λ (l : List TableLeg). i < length l) same lt) refl formed h
    (λ s c cost t. subst (λ x. StepsBy n.edges s c cost t ↔ (StepsBy m.edges s c cost t ⊎ StepsAlong at start (get_or row.legs i d).stop (get_or row.legs i d).to x s c cost t)) size
    (subst (λ (l : List TableLeg). StepsBy n.edges s c cost t ↔ (StepsBy m.edges s c cost t ⊎ StepsAlong at start (get_or l i d).stop (get_or l i d).to m.states s c cost t)) same (added s c cost t))))

pub led-end : (old : List Edge) (m n : Graph) (at : ℕ) (row : TableRow) (start states i : ℕ) (legs : List TableLeg) → legs ≡ row.legs → length legs ≤ i → m.states ≡ states → IsLed old m.edges at row start states (drop i row.legs)
    → ((s c : ℕ) (cost : List ℕ) (t : ℕ) → StepsBy n.edges s c cost t ↔ (StepsBy m.edges s c cost t ⊎ StepsAlong at start (greatest_character + 1) row.rest m.states s c cost t))
    → (s c : ℕ) (cost : List ℕ) (t : ℕ) → StepsBy n.edges s c cost t ↔ (StepsBy old s c cost t ⊎ StepsOfRow at row (greatest_character + 1) states s c cost t)
led-end old m n at row start states i legs same past size h added =
    led-all old m.edges n.edges at row start states i (subst (λ (l : List TableLeg). length l ≤ i) same past) h
    (λ s c cost t. subst (λ x. StepsBy n.edges s c cost t ↔ (StepsBy m.edges s c cost t ⊎ StepsAlong at start (greatest_character + 1) row.rest x s c cost t)) size (added s c cost t))

-- the ends
unlike : (b holds : Bool) → not (beq b holds) ≡ true → (b ≡ true → holds ≡ false) × (b ≡ false → holds ≡ true)
unlike true true h = cc
unlike true false h = (λ e. refl, λ e. sym e)
unlike false true h = (λ e. sym e, λ e. refl)
unlike false false h = cc

alike : (b holds : Bool) → not (beq b holds) ≡ false → (b ≡ true → holds ≡ true) × (b ≡ false → holds ≡ false)
alike true true h = (λ e. refl, λ e. e)
alike true false h = cc
alike false true h = cc
alike false false h = (λ e. e, λ e. refl)

pub left-out : (at last : ℕ) (holds : Bool) → not (beq (nat_eq at last) holds) ≡ true → (at ≡ last → holds ≡ false) × ((at ≡ last → ⊥) → holds ≡ true)
left-out at last holds h = let b = unlike (nat_eq at last) holds h in (λ e. b.0 (eq-eqb at last e), λ n. b.1 (false_from_ne_true (nat_eq at last) (λ t. n (eqb-true at last t))))

pub taken : (at last : ℕ) (holds : Bool) → not (beq (nat_eq at last) holds) ≡ false → (at ≡ last → holds ≡ true) × ((at ≡ last → ⊥) → holds ≡ false)
taken at last holds h = let b = alike (nat_eq at last) holds h in (λ e. b.0 (eq-eqb at last e), λ n. b.1 (false_from_ne_true (nat_eq at last) (λ t. n (eqb-true at last t))))

pub end-left-out : (E : List End) (at last : ℕ) (holds : Bool) → ((at ≡ last → holds ≡ false) × ((at ≡ last → ⊥) → holds ≡ true)) → (s : ℕ) (cost : List ℕ) → EndsAt E s cost ↔ (EndsAt E s cost ⊎ ((at ≡ s) × ([] ≡ cost) × IsEndState holds last s))
end-left-out E at last true h s cost = or-none (λ b. let e = h.0 (b.0 ∙ b.2) in cc)
end-left-out E at last false h s cost = or-none (λ b. let e = h.1 (λ f. b.2 (sym b.0 ∙ f)) in cc)

is-last : (at last : ℕ) (holds : Bool) → ((at ≡ last → holds ≡ true) × ((at ≡ last → ⊥) → holds ≡ false)) → IsEndState holds last at
is-last at last true h = by (less_or_not at last) (less_or_not last at)
  where
    by : ((at < last) × (nat_lt at last ≡ true)) ⊎ ((last ≤ at) × (nat_lt at last ≡ false)) → ((last < at) × (nat_lt last at ≡ true)) ⊎ ((at ≤ last) × (nat_lt last at ≡ false)) → at ≡ last
    by (inl a) b = (let e = h.1 (λ f. let x = a.0 in omega (arith, x, f)) in cc)
    by (inr a) (inl b) = (let e = h.1 (λ f. let x = b.0 in omega (arith, x, f)) in cc)
    by (inr a) (inr b) = (let x = a.0 in let y = b.0 in omega (arith, x, y))
is-last at last false h = λ e. let f = h.0 e in cc

pub end-added : (old new : List End) (at last : ℕ) (holds : Bool) (free : List ℕ) → ((at ≡ last → holds ≡ true) × ((at ≡ last → ⊥) → holds ≡ false)) → free ≡ [] → new ≡ old ++ ending at free ∷ []
    → (s : ℕ) (cost : List ℕ) → EndsAt new s cost ↔ (EndsAt old s cost ⊎ ((at ≡ s) × ([] ≡ cost) × IsEndState holds last s))
end-added old new at last holds free h none is s cost =
    let P : End → Type 0 = λ e. (e.at ≡ s) × (e.cost ≡ cost) in
    let added = ending at free in (
      λ g. elim (Any-push_cases P old added (subst (Any P) is g)) [
        | inl a ↦ inl a
        | inr p ↦ inr (p.0, sym none ∙ p.1, subst (IsEndState holds last) p.0 (is-last at last holds h))
      ],
      λ g. subst (Any P) (sym is) (elim g [
        | inl a ↦ Any-append_left P old (added ∷ []) a
        | inr b ↦ Any-append_right P old (added ∷ []) (Any-here P added [] (b.0, none ∙ b.1))
      ]),
    )

-- the steps and ends of the states below `count`
pub record AreMade (rows : List TableRow) (last : ℕ) (holds : Bool) (count states : ℕ) (edges : List Edge) (ends : List End) : Type 0 where
  pub steps : (s c : ℕ) (cost : List ℕ) (t : ℕ) → StepsBy edges s c cost t ↔ ((s < count) × (c ≤ greatest_character) × ([] ≡ cost) × (next rows s c ≡ t) × (t < states))
  pub stops : (s : ℕ) (cost : List ℕ) → EndsAt ends s cost ↔ ((s < count) × ([] ≡ cost) × IsEndState holds last s)

pub made-none : (rows : List TableRow) (last : ℕ) (holds : Bool) (states : ℕ) (edges : List Edge) (ends : List End) → edges ≡ [] → ends ≡ [] → AreMade rows last holds 0 states edges ends
made-none rows last holds states edges ends free none = record {
  steps = λ s c cost t. (
    λ h. absurd (Any-none (λ (e : Edge). (e.from ≡ s) × Moves c cost t (move_of e)) (subst (λ l. StepsBy l s c cost t) free h)),
    λ h. let x = h.0 in absurd (omega (arith, x)),
  );
  stops = λ s cost. (
    λ h. absurd (Any-none (λ (e : End). (e.at ≡ s) × (e.cost ≡ cost)) (subst (λ l. EndsAt l s cost) none h)),
    λ h. let x = h.0 in absurd (omega (arith, x)),
  );
}

last-or-before : (s n : ℕ) → s < n + 1 → (s < n) ⊎ (n ≡ s)
last-or-before s n h = ⊎_elim (λ a. inl a.0) (λ b. let x = b.0 in inr (omega (arith, x, h))) (less_or_not s n)

pub made-more : (rows : List TableRow) (last : ℕ) (holds : Bool) (at states : ℕ) (row : TableRow) (edges more : List Edge) (ends others : List End) → slice_get rows at ≡ Some row → AreMade rows last holds at states edges ends
    → ((s c : ℕ) (cost : List ℕ) (t : ℕ) → StepsBy more s c cost t ↔ (StepsBy edges s c cost t ⊎ StepsOfRow at row (greatest_character + 1) states s c cost t))
    → ((s : ℕ) (cost : List ℕ) → EndsAt others s cost ↔ (EndsAt ends s cost ⊎ ((at ≡ s) × ([] ≡ cost) × IsEndState holds last s)))
    → AreMade rows last holds (at + 1) states more others
made-more rows last holds at states row edges more ends others is h added ended = record {
  steps = λ s c cost t. (
    λ st. elim ((added s c cost t).0 st) [
      | inl a ↦ (let r = (h.steps s c cost t).0 a in let x = r.0 in (omega (arith, x), r.1, r.2, r.3, r.4))
      | inr b ↦ (let x = b.0 in let y = b.1 in (omega (arith, x), omega (arith, y), b.2, leads s c b.0 ∙ b.3, b.4))
    ],
    λ st. (added s c cost t).1 (elim (last-or-before s at st.0) [
      | inl lt ↦ inl ((h.steps s c cost t).1 (lt, st.1, st.2, st.3, st.4))
      | inr e ↦ (let x = st.1 in inr (e, omega (arith, x), st.2, sym (leads s c e) ∙ st.3, st.4))
    ]),
  );
  stops = λ s cost. (
    λ en. elim ((ended s cost).0 en) [
      | inl a ↦ (let r = (h.stops s cost).0 a in let x = r.0 in (omega (arith, x), r.1, r.2))
      | inr b ↦ (let x = b.0 in (omega (arith, x), b.1, b.2))
    ],
    λ en. (ended s cost).1 (elim (last-or-before s at en.0) [
      | inl lt ↦ inl ((h.stops s cost).1 (lt, en.1, en.2))
      | inr e ↦ inr (e, en.1, en.2)
    ]),
  );
}
  where
    leads : (s c : ℕ) → at ≡ s → next rows s c ≡ lead row.rest row.legs c
    leads s c e = ap (λ n. next rows n c) (sym e) ∙ ap (λ o. lead_by o at c) is

pub made-turn : (rows : List TableRow) (last : ℕ) (holds : Bool) (at states : ℕ) (row : TableRow) (m n k : Graph) → at < length rows → row ≡ get_or rows at row → m.states ≡ states → AreMade rows last holds at states m.edges m.ends
    → ((s c : ℕ) (cost : List ℕ) (t : ℕ) → StepsBy n.edges s c cost t ↔ (StepsBy m.edges s c cost t ⊎ StepsOfRow at row (greatest_character + 1) m.states s c cost t)) → n.ends ≡ m.ends
    → k.edges ≡ n.edges → ((s : ℕ) (cost : List ℕ) → EndsAt k.ends s cost ↔ (EndsAt n.ends s cost ⊎ ((at ≡ s) × ([] ≡ cost) × IsEndState holds last s))) → AreMade rows last holds (at + 1) states k.edges k.ends
made-turn rows last holds at states row m n k lt is size h added same_ends same_edges ended =
    made-more rows last holds at states row m.edges k.edges m.ends k.ends (get-at rows at row lt is) h
    (λ s c cost t. subst (λ es. StepsBy es s c cost t ↔ (StepsBy m.edges s c cost t ⊎ StepsOfRow at row (greatest_character + 1) states s c cost t)) (sym same_edges)
    (subst (λ x. StepsBy n.edges s c cost t ↔ (StepsBy m.edges s c cost t ⊎ StepsOfRow at row (greatest_character + 1) x s c cost t)) size (added s c cost t)))
    (λ s cost. subst (λ es. EndsAt k.ends s cost ↔ (EndsAt es s cost ⊎ ((at ≡ s) × ([] ≡ cost) × IsEndState holds last s))) same_ends (ended s cost))
  where
    get-at : (xs : List TableRow) (i : ℕ) (x : TableRow) → i < length xs → x ≡ get_or xs i x → slice_get xs i ≡ Some x
    get-at [] i x lt is = absurd (omega (arith, lt))
    get-at (y ∷ xs) zero x lt is = ap Some (sym is)
    get-at (y ∷ xs) (suc i) x lt is = get-at xs i x (omega (arith, lt)) is

pub made-all : (rows : List TableRow) (last : ℕ) (holds : Bool) (states : ℕ) (m : Graph) → m.registers ≡ 0 → m.states ≡ states → AreMade rows last holds states states m.edges m.ends → IsOfTable (next rows) last holds m
made-all rows last holds states m plain size h = record {
  plain = plain;
  steps = λ s c cost t. subst (λ n. StepsBy m.edges s c cost t ↔ ((s < n) × (c ≤ greatest_character) × ([] ≡ cost) × (next rows s c ≡ t) × (t < n))) (sym size) (h.steps s c cost t);
  ends = λ s cost. subst (λ n. EndsAt m.ends s cost ↔ ((s < n) × ([] ≡ cost) × IsEndState holds last s)) (sym size) (h.stops s cost);
}

pub made-end : (rows : List TableRow) (last : ℕ) (holds : Bool) (at states : ℕ) (m : Graph) → m.registers ≡ 0 → m.states ≡ states → states ≤ at → at ≤ states → AreMade rows last holds at states m.edges m.ends → IsOfTable (next rows) last holds m
made-end rows last holds at states m plain size low high h = made-all rows last holds states m plain size (subst (λ k. AreMade rows last holds k states m.edges m.ends) (let e : at ≡ states = omega (arith, low, high) in e) h)

-- the words
module _ (step : ℕ → ℕ → ℕ) (last : ℕ) (holds : Bool) (m : Graph) (table : IsOfTable step last holds m) where
  abbrev Reading : ℕ → Word → List ℕ → Type 0
  Reading s w cost = RunsFrom (EndsAt m.ends) (StepsBy m.edges) s w cost

  read-out : (w : Word) (s : ℕ) (cost : List ℕ) → Reading s w cost → IsWord w × (after step s w < m.states) × IsEndState holds last (after step s w)
  read-out [] s cost r = let e = (table.ends s cost).0 r in (tt, e.0, e.2)
  read-out (c ∷ w) s cost r =
      let st = (table.steps s c r.0 r.1).0 r.3 in
      let rest = read-out w r.1 r.2 r.4 in
      let P : ℕ → Type 0 = λ t. (after step t w < m.states) × IsEndState holds last (after step t w) in
      let here : P (step s c) = subst P (sym st.3) (rest.1, rest.2) in
      ((st.1, rest.0), here.0, here.1)

  module _ (stuck : (s c : ℕ) → m.states ≤ s → m.states ≤ step s c) where
    stuck-after : (w : Word) (s : ℕ) → m.states ≤ s → m.states ≤ after step s w
    stuck-after [] s h = h
    stuck-after (c ∷ w) s h = stuck-after w (step s c) (stuck s c h)

    read-in : (w : Word) (s : ℕ) → IsWord w → s < m.states → after step s w < m.states → IsEndState holds last (after step s w) → Reading s w []
    read-in [] s ok among below ends = (table.ends s []).1 (among, refl, ends)
    read-in (c ∷ w) s ok among below ends =
        let inside : step s c < m.states = ⊎_elim (λ a. a.0) (λ b. let x = stuck-after w (step s c) b.0 in absurd (omega (arith, x, below))) (less_or_not (step s c) m.states) in
        ([], step s c, [], (table.steps s c [] (step s c)).1 (among, ok.0, refl, refl, inside), read-in w (step s c) ok.1 inside below ends, refl)

-- a table whose last state is that of the words that pass a test
pub table-decides : (holds : Bool) (step : ℕ → ℕ → ℕ) (last most : ℕ) (test : Word → Bool) (m : Graph) → IsOfTable step last holds m → ((s c : ℕ) → m.states ≤ s → m.states ≤ step s c)
    → ((w : Word) → (after step 0 w ≡ last) ↔ (test w ≡ true)) → (holds ≡ true → last < m.states) → (holds ≡ false → (w : Word) → (after step 0 w ≡ last → ⊥) → after step 0 w < m.states) → m.states ≤ most → Decides test holds most m
table-decides true step last most test m table stuck tells among all few = record {
  reads = record {
    plain = table.plain;
    words = λ w. (
      λ r. let o = read-out step last true m table w 0 [] r in (o.0, (tells w).0 o.2),
      λ h. let e = (tells w).1 h.1 in read-in step last true m table stuck w 0 h.0 m.started (subst (λ n. n < m.states) (sym e) (among refl)) e,
    );
  };
  few = few;
}
table-decides false step last most test m table stuck tells among all few = record {
  reads = record {
    plain = table.plain;
    words = λ w. (
      λ r. let o = read-out step last false m table w 0 [] r in (o.0, false_from_ne_true (test w) (λ t. o.2 ((tells w).1 t))),
      λ h.
          let past : after step 0 w ≡ last → ⊥ = λ e. (let t = (tells w).0 e in let f = h.1 in cc) in
          read-in step last false m table stuck w 0 h.0 m.started (all refl w past) past,
    );
  };
  few = few;
}
