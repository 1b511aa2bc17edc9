-- Words read from their ends on.
use Rattle.std.proofs.Common.{◌≡◌, Bool, false, ℕ, ◌+◌, ◌*◌, ◌^◌, ◌<◌, ◌≤◌, ◌↔◌, ◌⊎◌, inl, inr, List, [], ◌∷◌, ◌++◌, length, map, take, get_or, reverse, Any, Contains, refl, sym, ap, ◌∙◌, subst, arith, mul-le-mul, mul-le-mul_left, mul-le-mul_right}
use Rattle.std.proofs.lemmas.List.{nil_from_length, reverse-append, reverse-reverse, take_more, take_all}
use Rattle.std.proofs.lemmas.List.Elements.{Contains-append_left, Contains-append_cases}
use Rattle.sv_list.specs.Lists.{Contains-none, Contains-cases, Contains-middle, Any-none, Any-here, Any-there, Any-cases, Any-contains, contained}
use Rattle.machine_core.specs.declared.edge.Edge.{Edge}
use Rattle.machine_core.specs.declared.end.End.{End}
use Rattle.machine_core.specs.declared.graph.Graph.{Graph}
use Rattle.machine_core.specs.Edges.{ending, move_of, EndsAt, StepsBy}
use Rattle.machine_core.specs.Graphs.{Accepts}
use Rattle.machine_core.specs.Moves.{Moves}
use Rattle.subset_machine.specs.Subsets.{SubsetAccepts, HasSignedWord}
use Rattle.sv_word.specs.Words.{IsWord}
use Rattle.sv_terms.specs.Bounds.{from_left, without_size}
use Rattle.sv_terms.specs.Language.{Word, InOneOf, InFirstOnly}
use Rattle.machine_meet.specs.Products.{multiplied}
use Rattle.sv_terms.specs.OnlyWords.{word_join}
use Rattle.regex_machine.specs.Joined.{WordsOf, HasWords, HaveNoRegisters}
use Rattle.regex_machine.specs.Kinds.{states_of}
use Rattle.regex_machine.specs.Reversed.{turned_edge, begun_edge, AddsTurned, AreTurned, AreTurnedEnds, IsReversed, AreReversed, ReadsOthersWithin, ReadsFirstOnlyWithin, ReadsBackWithin, ReadsSameWithin}
use Rattle.regex_machine.proofs.KindLemmas.{fold-without, power-above}
use Rattle.regex_machine.proofs.WordLemmas.{From, from-step, step-from}

-- the word leads from the one state to the other
abbrev Leads : List Edge → ℕ → Word → ℕ → Type 0
Leads edges s [] t = s ≡ t
Leads edges s (c ∷ w) t = (u : ℕ) × StepsBy edges s c [] u × Leads edges u w t

leads-last : (edges : List Edge) (w : Word) (s c t u : ℕ) → Leads edges s w t → StepsBy edges t c [] u → Leads edges s (w ++ c ∷ []) u
leads-last edges [] s c t u l st = (u, subst (λ n. StepsBy edges n c [] u) (sym l) st, refl)
leads-last edges (d ∷ w) s c t u l st = (l.0, l.1, leads-last edges w l.0 c t u l.2 st)

last-step : (edges : List Edge) (w : Word) (s c u : ℕ) → Leads edges s (w ++ c ∷ []) u → (t : ℕ) × Leads edges s w t × StepsBy edges t c [] u
last-step edges [] s c u l = (s, refl, subst (λ n. StepsBy edges s c [] n) l.2 l.1)
last-step edges (d ∷ w) s c u l = let r = last-step edges w l.0 c u l.2 in (r.0, (l.0, l.1, r.1), r.2)

from-leads : (m : Graph) → m.registers ≡ 0 → (w : Word) (s : ℕ) → From m s w → (t : ℕ) × Leads m.edges s w t × EndsAt m.ends t []
from-leads m plain [] s r = (s, refl, r)
from-leads m plain (c ∷ w) s r =
    let st = from-step m plain s c w r in
    let rest = from-leads m plain w st.0 st.2 in
    (rest.0, (st.0, st.1, rest.1), rest.2)

leads-from : (m : Graph) (w : Word) (s t : ℕ) → Leads m.edges s w t → EndsAt m.ends t [] → From m s w
leads-from m [] s t l e = subst (λ n. EndsAt m.ends n []) (sym l) e
leads-from m (c ∷ w) s t l e = step-from m s c l.0 w l.1 (leads-from m w l.0 t l.2 e)

abbrev more : ℕ → ℕ
more n = n + 1

turned-word : (c : ℕ) (w : Word) → reverse (c ∷ w) ≡ reverse w ++ c ∷ []
turned-word c w = reverse-append (c ∷ []) w

abbrev Leaves : ℕ → ℕ → ℕ → Edge → Type 0
Leaves s c t e = (e.from ≡ s) × Moves c [] t (move_of e)

module _ (m n : Graph) (plain : m.registers ≡ 0) (free : n.registers ≡ 0) (turned : AreTurned m.ends m.edges n.edges) (ends : AreTurnedEnds m.ends n.ends) where
  turn : (s c t : ℕ) → StepsBy m.edges s c [] t → StepsBy n.edges (t + 1) c [] (s + 1)
  turn s c t st =
      let g = contained (Leaves s c t) m.edges st in
      Any-contains (Leaves (t + 1) c (s + 1)) n.edges (turned_edge g.0) (turned.back g.0 g.1) (ap more g.2.1.2, (g.2.1.0, refl, ap more g.2.0))

  begin : (s c t : ℕ) → StepsBy m.edges s c [] t → EndsAt m.ends t [] → StepsBy n.edges 0 c [] (s + 1)
  begin s c t st end =
      let g = contained (Leaves s c t) m.edges st in
      Any-contains (Leaves 0 c (s + 1)) n.edges (begun_edge g.0) (turned.begun g.0 g.1 (subst (λ x. EndsAt m.ends x []) (sym g.2.1.2) end)) (refl, (g.2.1.0, refl, ap more g.2.0))

  -- the step that was turned round
  abbrev IsOf : ℕ → ℕ → ℕ → Type 0
  IsOf u c v = (s t : ℕ) × StepsBy m.edges s c [] t × (v ≡ s + 1) × ((u ≡ t + 1) ⊎ ((u ≡ 0) × EndsAt m.ends t []))

  of-edge : (e : Edge) (c : ℕ) → Contains m.edges e → Moves c [] (e.from + 1) (move_of (turned_edge e)) → StepsBy m.edges e.from c [] e.to
  of-edge e c i p =
      let cost = nil_from_length e.cost ((m.formed.edge e i).cost ∙ plain) in
      Any-contains (Leaves e.from c e.to) m.edges e i (refl, (p.0, cost, refl))

  turned-step : (u c v : ℕ) → StepsBy n.edges u c [] v → IsOf u c v
  turned-step u c v st =
      let g = contained (Leaves u c v) n.edges st in
      let r = turned.only g.0 g.1 in
      let e = r.0 in
      let O : Edge → List (ℕ × ℕ) = λ (d : Edge). d.on in
      let F : Edge → ℕ = λ (d : Edge). d.from in
      let T : Edge → ℕ = λ (d : Edge). d.to in
      elim r.2 [
        | inl b ↦
            let at = subst (λ (d : Edge). Leaves u c v d) (sym b) g.2 in
            (e.from, e.to, of-edge e c r.1 (at.1.0, refl, refl), sym at.1.2, inl (sym at.0))
        | inr b ↦
            let at = subst (λ (d : Edge). Leaves u c v d) (sym b.0) g.2 in
            (e.from, e.to, of-edge e c r.1 (at.1.0, refl, refl), sym at.1.2, inr (sym at.0, b.1))
      ]

  back-out : (w : Word) (t : ℕ) → From n (t + 1) w → Leads m.edges 0 (reverse w) t
  back-out [] t r = elim ((ends (t + 1)).0 r) [ inl e ↦ omega arith | inr e ↦ absurd (let z = e.0 in omega arith) ]
  back-out (c ∷ w) t r =
      let st = from-step n free (t + 1) c w r in
      let q = turned-step (t + 1) c st.0 st.1 in
      let rest = back-out w q.0 (subst (λ x. From n x w) q.3 st.2) in
      elim q.4 [
        | inl e ↦
            let same : q.1 ≡ t = omega arith in
            subst (λ l. Leads m.edges 0 l t) (sym (turned-word c w)) (leads-last m.edges (reverse w) 0 c q.0 t rest (subst (λ x. StepsBy m.edges q.0 c [] x) same q.2))
        | inr e ↦ absurd (let z = e.0 in omega arith)
      ]

  back-in : (w : Word) (t : ℕ) → Leads m.edges 0 (reverse w) t → From n (t + 1) w
  back-in [] t l = (ends (t + 1)).1 (inl (ap more (sym l)))
  back-in (c ∷ w) t l =
      let r = last-step m.edges (reverse w) 0 c t (subst (λ x. Leads m.edges 0 x t) (turned-word c w) l) in
      step-from n (t + 1) c (r.0 + 1) w (turn r.0 c t r.2) (back-in w r.0 r.1)

  words-out : (w : Word) → WordsOf n w → WordsOf m (reverse w)
  words-out [] r = elim ((ends 0).0 r) [ inl e ↦ absurd (omega arith) | inr e ↦ e.1 ]
  words-out (c ∷ w) r =
      let st = from-step n free 0 c w r in
      let q = turned-step 0 c st.0 st.1 in
      let rest = back-out w q.0 (subst (λ x. From n x w) q.3 st.2) in
      elim q.4 [
        | inl e ↦ absurd (omega arith)
        | inr e ↦ subst (WordsOf m) (sym (turned-word c w)) (leads-from m (reverse w ++ c ∷ []) 0 q.1 (leads-last m.edges (reverse w) 0 c q.0 q.1 rest q.2) e.1)
      ]

  words-in : (w : Word) → WordsOf m (reverse w) → WordsOf n w
  words-in [] r = (ends 0).1 (inr (refl, r))
  words-in (c ∷ w) r =
      let l = from-leads m plain (reverse w ++ c ∷ []) 0 (subst (WordsOf m) (turned-word c w) r) in
      let s = last-step m.edges (reverse w) 0 c l.0 l.1 in
      step-from n 0 c (s.0 + 1) w (begin s.0 c l.0 s.2 l.2) (back-in w s.0 s.1)

  pub turned-reads : HasWords (λ w. WordsOf m (reverse w)) n
  turned-reads = record {
    plain = free;
    words = λ w. (words-out w, words-in w);
  }

-- edges turned one after another
pub turned-none : (ends : List End) (turned : List Edge) → turned ≡ [] → AreTurned ends [] turned
turned-none ends turned none = record {
  back = λ e i. absurd (Contains-none e i);
  begun = λ e i end. absurd (Contains-none e i);
  only = λ d i. absurd (Contains-none d (subst (λ l. Contains l d) none i));
}

pub turned-more : (ends : List End) (edges old new : List Edge) (e : Edge) → AreTurned ends edges old → AddsTurned ends e old new → AreTurned ends (edges ++ e ∷ []) new
turned-more ends edges old new e h a = record {
  back = λ d i. elim (Contains-append_cases edges (e ∷ []) d i) [
    | inl l ↦ a.kept (turned_edge d) (h.back d l)
    | inr r ↦ subst (λ (x : Edge). Contains new (turned_edge x)) (only e d r) a.back
  ];
  begun = λ d i end. elim (Contains-append_cases edges (e ∷ []) d i) [
    | inl l ↦ a.kept (begun_edge d) (h.begun d l end)
    | inr r ↦ subst (λ (x : Edge). Contains new (begun_edge x)) (only e d r) (a.begun (subst (λ (x : Edge). EndsAt ends x.to []) (sym (only e d r)) end))
  ];
  only = λ d i. elim (a.only d i) [
    | inl o ↦ let r = h.only d o in (r.0, Contains-append_left edges (e ∷ []) r.0 r.1, r.2)
    | inr r ↦ (e, Contains-middle edges e [], r)
  ];
}
  where
    only : (x y : Edge) → Contains (x ∷ []) y → x ≡ y
    only x y i = elim (Contains-cases x [] y i) [ inl e ↦ e | inr none ↦ absurd (Contains-none y none) ]

pub turned-read : (ends : List End) (edges items : List Edge) (i : ℕ) (e : Edge) (old new : List Edge) → items ≡ edges → i < length items → e ≡ get_or items i e
    → AreTurned ends (take i edges) old → AddsTurned ends e old new → AreTurned ends (take (i + 1) edges) new
turned-read ends edges items i e old new same lt is h a =
    let lt2 = subst (λ l. i < length l) same lt in
    let at : e ≡ get_or edges i e = subst (λ l. e ≡ get_or l i e) same is in
    let grown : take (i + 1) edges ≡ take i edges ++ e ∷ [] = take_more edges i e lt2 ∙ ap (λ x. take i edges ++ x ∷ []) (sym at) in
    subst (λ l. AreTurned ends l new) (sym grown) (turned-more ends (take i edges) old new e h a)

-- one edge turned round
pub adds-back : (ends : List End) (e : Edge) (old new : List Edge) → (EndsAt ends e.to [] → ⊥) → new ≡ old ++ turned_edge e ∷ [] → AddsTurned ends e old new
adds-back ends e old new none made = record {
  kept = λ d i. subst (λ l. Contains l d) (sym made) (Contains-append_left old (turned_edge e ∷ []) d i);
  back = subst (λ l. Contains l (turned_edge e)) (sym made) (Contains-middle old (turned_edge e) []);
  begun = λ end. absurd (none end);
  only = λ d i. elim (Contains-append_cases old (turned_edge e ∷ []) d (subst (λ l. Contains l d) made i)) [
    | inl o ↦ inl o
    | inr r ↦ elim (Contains-cases (turned_edge e) [] d r) [ inl is ↦ inr (inl is) | inr nothing ↦ absurd (Contains-none d nothing) ]
  ];
}

pub adds-both : (ends : List End) (e : Edge) (old mid new : List Edge) → EndsAt ends e.to [] → mid ≡ old ++ turned_edge e ∷ [] → new ≡ mid ++ begun_edge e ∷ [] → AddsTurned ends e old new
adds-both ends e old mid new end made more = record {
  kept = λ d i. later d (in-mid d (Contains-append_left old (turned_edge e ∷ []) d i));
  back = later (turned_edge e) (in-mid (turned_edge e) (Contains-middle old (turned_edge e) []));
  begun = λ x. subst (λ l. Contains l (begun_edge e)) (sym more) (Contains-middle mid (begun_edge e) []);
  only = λ d i. elim (Contains-append_cases mid (begun_edge e ∷ []) d (subst (λ l. Contains l d) more i)) [
    | inl o ↦ elim (Contains-append_cases old (turned_edge e ∷ []) d (subst (λ l. Contains l d) made o)) [
      | inl x ↦ inl x
      | inr r ↦ elim (Contains-cases (turned_edge e) [] d r) [ inl is ↦ inr (inl is) | inr nothing ↦ absurd (Contains-none d nothing) ]
    ]
    | inr r ↦ elim (Contains-cases (begun_edge e) [] d r) [ inl is ↦ inr (inr (is, end)) | inr nothing ↦ absurd (Contains-none d nothing) ]
  ];
}
  where
    in-mid : (d : Edge) → Contains (old ++ turned_edge e ∷ []) d → Contains mid d
    in-mid d i = subst (λ l. Contains l d) (sym made) i

    later : (d : Edge) → Contains mid d → Contains new d
    later d i = subst (λ l. Contains l d) (sym more) (Contains-append_left mid (begun_edge e ∷ []) d i)

pub turned-all : (ends : List End) (edges items : List Edge) (i : ℕ) (old new : List Edge) → items ≡ edges → length items ≤ i → AreTurned ends (take i edges) old → new ≡ old → AreTurned ends edges new
turned-all ends edges items i old new same past h is =
    subst (AreTurned ends edges) (sym is) (subst (λ l. AreTurned ends l old) (take_all i edges (subst (λ l. length l ≤ i) same past)) h)

pub ends-one : (ends turned : List End) → turned ≡ ending 1 [] ∷ [] → (EndsAt ends 0 [] → ⊥) → AreTurnedEnds ends turned
ends-one ends turned is none u =
    let P : End → Type 0 = λ (e : End). (e.at ≡ u) × (e.cost ≡ []) in (
      λ a. elim (Any-cases P (ending 1 []) [] (subst (Any P) is a)) [ inl h ↦ inl (sym h.0) | inr x ↦ absurd (Any-none P x) ],
      λ h. subst (Any P) (sym is) (elim h [ inl e ↦ Any-here P (ending 1 []) [] (sym e, refl) | inr e ↦ absurd (none e.1) ]),
    )

pub ends-two : (ends turned : List End) → turned ≡ ending 1 [] ∷ ending 0 [] ∷ [] → EndsAt ends 0 [] → AreTurnedEnds ends turned
ends-two ends turned is some u =
    let P : End → Type 0 = λ (e : End). (e.at ≡ u) × (e.cost ≡ []) in
    let Q = ending 0 [] ∷ [] in (
      λ a. elim (Any-cases P (ending 1 []) Q (subst (Any P) is a)) [
        | inl h ↦ inl (sym h.0)
        | inr x ↦ elim (Any-cases P (ending 0 []) [] x) [ inl h ↦ inr (sym h.0, some) | inr y ↦ absurd (Any-none P y) ]
      ],
      λ h. subst (Any P) (sym is) (elim h [
        | inl e ↦ Any-here P (ending 1 []) Q (sym e, refl)
        | inr e ↦ Any-there P (ending 1 []) Q (Any-here P (ending 0 []) [] (sym e.0, refl))
      ]),
    )

pub reversed-is : (m n : Graph) → m.registers ≡ 0 → n.registers ≡ 0 → n.states ≡ m.states + 1 → AreTurned m.ends m.edges n.edges → AreTurnedEnds m.ends n.ends → IsReversed m n
reversed-is m n plain free states turned ends = record {
  reads = turned-reads m n plain free turned ends;
  states = omega arith;
}

pub trimmed-reversed : (m n t : Graph) → IsReversed m n → ((word cost : List ℕ) → Accepts t word cost ↔ Accepts n word cost) → t.registers ≡ n.registers → t.states ≤ n.states → IsReversed m t
trimmed-reversed m n t h same registers few = record {
  reads = record {
    plain = registers ∙ h.reads.plain;
    words = λ w. (λ r. (h.reads.words w).0 ((same w []).0 r), λ r. (same w []).1 ((h.reads.words w).1 r));
  };
  states = let s = h.states in omega arith;
}

-- words turned round are words
pub word-turned : (w : Word) → IsWord w → IsWord (reverse w)
word-turned [] h = h
word-turned (c ∷ w) h = subst IsWord (sym (turned-word c w)) (word_join (reverse w) (c ∷ []) (word-turned w h.1) (h.0, tt))

word-back : (w : Word) → IsWord (reverse w) → IsWord w
word-back w h = subst IsWord (reverse-reverse w) (word-turned (reverse w) h)

-- the other words, turned round twice
pub others-turned : (m t d r : Graph) (limit : ℕ) → IsReversed m t → HasWords (λ w. IsWord w × (WordsOf t w → ⊥)) d → d.states ≤ limit → IsReversed d r → ReadsOthersWithin m (limit + 1) r
others-turned m t d r limit mt td few dr = (
  record {
    plain = dr.reads.plain;
    words = λ w. (λ h. out w h, λ h. back w h);
  },
  let s = dr.states in omega arith,
)
  where
    out : (w : Word) → WordsOf r w → IsWord w × (WordsOf m w → ⊥)
    out w h =
        let x = (td.words (reverse w)).0 ((dr.reads.words w).0 h) in
        (word-back w x.0, λ y. x.1 ((mt.reads.words (reverse w)).1 (subst (WordsOf m) (sym (reverse-reverse w)) y)))

    back : (w : Word) → IsWord w × (WordsOf m w → ⊥) → WordsOf r w
    back w h = (dr.reads.words w).1 ((td.words (reverse w)).1 (word-turned w h.0, λ y. h.1 (subst (WordsOf m) (reverse-reverse w) ((mt.reads.words (reverse w)).0 y))))

-- machines turned round, one after another
reversed-push : (ms ts : List Graph) (m t : Graph) → AreReversed ms ts → IsReversed m t → AreReversed (ms ++ m ∷ []) (ts ++ t ∷ [])
reversed-push [] [] m t h g = (g, tt)
reversed-push [] (x ∷ ts) m t h g = absurd h
reversed-push (x ∷ ms) [] m t h g = absurd h
reversed-push (x ∷ ms) (y ∷ ts) m t h g = (h.0, reversed-push ms ts m t h.1 g)

pub reversed-none : (ms ts : List Graph) → ts ≡ [] → AreReversed (take 0 ms) ts
reversed-none ms ts e = subst (AreReversed []) (sym e) tt

pub reversed-more : (ms : List Graph) (i : ℕ) (m : Graph) (ts new : List Graph) (t : Graph) → i < length ms → m ≡ get_or ms i m → IsReversed m t → new ≡ ts ++ t ∷ []
    → AreReversed (take i ms) ts → AreReversed (take (i + 1) ms) new
reversed-more ms i m ts new t lt is back made h =
    let grown : take (i + 1) ms ≡ take i ms ++ m ∷ [] = take_more ms i m lt ∙ ap (λ x. take i ms ++ x ∷ []) (sym is) in
    subst (λ l. AreReversed l new) (sym grown) (subst (AreReversed (take i ms ++ m ∷ [])) (sym made) (reversed-push (take i ms) ts m t h back))

pub reversed-all : (ms : List Graph) (i : ℕ) (ts : List Graph) → length ms ≤ i → AreReversed (take i ms) ts → AreReversed ms ts
reversed-all ms i ts past h = subst (λ l. AreReversed l ts) (take_all i ms past) h

pub reversed-plain : (ms ts : List Graph) → AreReversed ms ts → HaveNoRegisters ts
reversed-plain ms [] h t i = absurd (Contains-none t i)
reversed-plain [] (x ∷ ts) h t i = absurd h
reversed-plain (m ∷ ms) (x ∷ ts) h t i = elim (Contains-cases x ts t i) [
  | inl e ↦ subst (λ (y : Graph). y.registers ≡ 0) e h.0.reads.plain
  | inr r ↦ reversed-plain ms ts h.1 t r
]

one-turned : (ms ts : List Graph) → AreReversed ms ts → (w : Word) → InOneOf WordsOf ts w ↔ InOneOf WordsOf ms (reverse w)
one-turned [] [] h w = (λ x. x, λ x. x)
one-turned [] (x ∷ ts) h w = absurd h
one-turned (m ∷ ms) [] h w = absurd h
one-turned (m ∷ ms) (t ∷ ts) h w = (
  λ x. elim x [ inl a ↦ inl ((h.0.reads.words w).0 a) | inr a ↦ inr ((one-turned ms ts h.1 w).0 a) ],
  λ x. elim x [ inl a ↦ inl ((h.0.reads.words w).1 a) | inr a ↦ inr ((one-turned ms ts h.1 w).1 a) ],
)

first-turned : (ms ts : List Graph) → AreReversed ms ts → (w : Word) → InFirstOnly WordsOf ts w ↔ InFirstOnly WordsOf ms (reverse w)
first-turned [] [] h w = (λ x. x, λ x. x)
first-turned [] (x ∷ ts) h w = absurd h
first-turned (m ∷ ms) [] h w = absurd h
first-turned (m ∷ ms) (t ∷ ts) h w = (
  λ x. ((h.0.reads.words w).0 x.0, λ y. x.1 ((one-turned ms ts h.1 w).1 y)),
  λ x. ((h.0.reads.words w).1 x.0, λ y. x.1 ((one-turned ms ts h.1 w).0 y)),
)

-- what no other reads, turned round twice
pub first-only-turned : (ms ts : List Graph) (d r : Graph) (limit : ℕ) → AreReversed ms ts → HasWords (InFirstOnly WordsOf ts) d → d.states ≤ limit → IsReversed d r → ReadsFirstOnlyWithin ms (limit + 1) r
first-only-turned ms ts d r limit back reads few turned = (
  record {
    plain = turned.reads.plain;
    words = λ w. (
      λ h. subst (InFirstOnly WordsOf ms) (reverse-reverse w) ((first-turned ms ts back (reverse w)).0 ((reads.words (reverse w)).0 ((turned.reads.words w).0 h))),
      λ h. (turned.reads.words w).1 ((reads.words (reverse w)).1 ((first-turned ms ts back (reverse w)).1 (subst (InFirstOnly WordsOf ms) (sym (reverse-reverse w)) h))),
    );
  },
  let s = turned.states in omega arith,
)

some-sets : (ms : List Graph) → 1 ≤ multiplied (λ (x : Graph). 2 ^ states_of x) ms
some-sets [] = omega arith
some-sets (m ∷ ms) =
    let rest = some-sets ms in
    let above = power-above m.states in
    let power : 1 ≤ 2 ^ m.states = omega arith in
    let both : 1 * 1 ≤ 2 ^ m.states * multiplied (λ (x : Graph). 2 ^ states_of x) ms = mul-le-mul power rest in
    omega arith

-- the sets of the second machine's states are no more than what the whole takes
pub second-sets : (ms : List Graph) (second : Graph) (n : ℕ) → 2 ≤ length ms → second ≡ get_or ms 1 second → n ≤ 2 ^ second.states → n ≤ from_left without_size (map states_of ms)
second-sets [] second n two is few = absurd (omega arith)
second-sets (a ∷ []) second n two is few = absurd (omega arith)
second-sets (a ∷ b ∷ ms) second n two is few =
    let others = multiplied (λ (x : Graph). 2 ^ states_of x) ms in
    let whole = fold-without states_of a.states (b ∷ ms) in
    let sets : n ≤ 2 ^ b.states = subst (λ (x : Graph). n ≤ 2 ^ x.states) is few in
    let inner : 2 ^ b.states * 1 ≤ 2 ^ b.states * others = mul-le-mul_left (2 ^ b.states) (some-sets ms) in
    let outer : 1 * (2 ^ b.states * others) ≤ a.states * (2 ^ b.states * others) = mul-le-mul_right (2 ^ b.states * others) a.started in
    omega arith

-- what the subset construction reads
pub same-by_sets : (m n : Graph) (negated : Bool) → n ≡ m → negated ≡ false → ((w : Word) (cost : List ℕ) → SubsetAccepts false m w cost ↔ (HasSignedWord false m w × (cost ≡ [])))
    → (w : Word) → SubsetAccepts negated n w [] ↔ WordsOf m w
same-by_sets m n negated same e says w =
    subst (λ b. SubsetAccepts b n w [] ↔ WordsOf m w) (sym e)
    (subst (λ (x : Graph). SubsetAccepts false x w [] ↔ WordsOf m w) (sym same) (λ h. ((says w []).0 h).0, λ h. (says w []).1 (h, refl)))

pub back-within : (m t n : Graph) (limit : ℕ) → IsReversed m t → HasWords (WordsOf t) n → n.states ≤ limit → ReadsBackWithin m limit n
back-within m t n limit h reads few = (
  record {
    plain = reads.plain;
    words = λ w. (λ r. (h.reads.words w).0 ((reads.words w).0 r), λ r. (reads.words w).1 ((h.reads.words w).1 r));
  },
  few,
)

-- read back twice
pub back-twice : (m b n : Graph) (limit : ℕ) → HasWords (λ w. WordsOf m (reverse w)) b → ReadsBackWithin b limit n → ReadsSameWithin m limit n
back-twice m b n limit h r = (
  record {
    plain = r.0.plain;
    words = λ w. (
      λ x. subst (WordsOf m) (reverse-reverse w) ((h.words (reverse w)).0 ((r.0.words w).0 x)),
      λ x. (r.0.words w).1 ((h.words (reverse w)).1 (subst (WordsOf m) (sym (reverse-reverse w)) x)),
    );
  },
  r.1,
)

-- where no word is in the first one alone of machines turned round, none is so
pub none-turned : (ms ts : List Graph) → AreReversed ms ts → ((w : Word) → InFirstOnly WordsOf ts w → ⊥) → (w : Word) → InFirstOnly WordsOf ms w → ⊥
none-turned ms ts back none w h = none (reverse w) ((first-turned ms ts back (reverse w)).1 (subst (InFirstOnly WordsOf ms) (sym (reverse-reverse w)) h))

pub none-within : (ms : List Graph) (m : Graph) (most : ℕ) → ((w : Word) → InFirstOnly WordsOf ms w → ⊥) → HasWords (λ w. ⊥) m → m.states ≤ 1 → 1 ≤ most → ReadsFirstOnlyWithin ms most m
none-within ms m most none reads few some = (
  record { plain = reads.plain; words = λ w. (λ r. absurd ((reads.words w).0 r), λ h. absurd (none w h)) },
  omega (arith, few, some),
)
