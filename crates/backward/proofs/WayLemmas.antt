-- Words that lead along marked pairs of states, and cuts that lead on to an end.
use Rattle.std.proofs.Common.{◌≡◌, ℕ, zero, suc, ◌<◌, ◌+◌, Bool, true, false, List, [], ◌∷◌, ◌++◌, length, map, drop, get_or, slice_get, slice_set, Option, None, Some, Contains, IsTrue, refl, sym, ap, ◌∙◌, subst, arith, ◌≤◌, inl, inr}
use Rattle.std.proofs.lemmas.Bool.Decides.{eqb_tells}
use Rattle.std.proofs.lemmas.Option.{slice_get_within}
use Rattle.sv_list.specs.Lists.{stands-at}
use Rattle.sv_word.specs.Ranges.{in_ranges}
use Rattle.sv_terms.specs.Language.{Word}
use Rattle.machine_core.specs.declared.edge.Edge.{Edge}
use Rattle.machine_core.specs.declared.end.End.{End}
use Rattle.machine_core.specs.declared.graph.Graph.{Graph}
use Rattle.machine_core.specs.Edges.{EndsAt, StepsBy}
use Rattle.machine_core.specs.Graphs.{Accepts}
use Rattle.machine_core.specs.Language.{RunsFrom}
use Rattle.pre_image.specs.Slices.{SliceEnds}
use Rattle.backward.specs.Families.{Family, Words, HasMachine, without, after, Conf}
use Rattle.backward.specs.Pieces.{first_of, RunsInTurn, ConfCut}
use Rattle.backward.specs.Ways.{Leads, LeadInTurn, is_set, is_marked, IsClosed, AreGoals, AreStarts, AreStops, AreLive, AreNext}
use Rattle.backward.specs.declared.pairs.Way.TheVariants as way
use Rattle.backward.proofs.ConfLemmas.{set-other}

-- what stands past the end
pub get-none : {X : Type 0} (xs : List X) (i : ℕ) (d : X) → slice_get xs i ≡ None → get_or xs i d ≡ d
get-none [] zero d e = refl
get-none [] (suc i) d e = refl
get-none (x ∷ xs) zero d e = cc
get-none (x ∷ xs) (suc i) d e = get-none xs i d e

-- a step more of a loop
pub one-more : (P : ℕ → Type 0) (n : ℕ) → ((i : ℕ) → i < n → P i) → P n → (i : ℕ) → i < n + 1 → P i
one-more P n h p i lt = elim (eqb_tells i n) [
  | inl is ↦ subst P (sym is.1) p
  | inr other ↦ h i (let ne = other.1 in omega arith)
]

-- what a loop has gone through
pub all-through : (P : ℕ → Edge → Type 0) (es : List Edge) (n : ℕ) → length es ≤ n → ((i : ℕ) (e : Edge) → i < n → slice_get es i ≡ Some e → P i e) → (i : ℕ) (e : Edge) → slice_get es i ≡ Some e → P i e
all-through P es n le h i e is = h i e (let lt = slice_get_within es i e is in omega arith) is

-- some edge takes the step
edge-of : (es : List Edge) (a c : ℕ) (k : List ℕ) (b : ℕ) → StepsBy es a c k b → (i : ℕ) × (e : Edge) × (slice_get es i ≡ Some e) × (e.from ≡ a) × (e.to ≡ b) × IsTrue (in_ranges e.on c)
edge-of es a c k b s = (s.0, s.1, stands-at es s.0 s.1 s.2 (sym s.3), s.4.0, s.4.1.2, s.4.1.0)

module _ (rows : List (List Bool)) (es ds : List Edge) (Ends Stops : ℕ → List ℕ → Type 0) where
  at-both : (a b x y : ℕ) → a ≡ x → b ≡ y → is_marked rows a b ≡ true → is_marked rows x y ≡ true
  at-both a b x y p q h = subst (λ j. is_marked rows x j ≡ true) q (subst (λ i. is_marked rows i b ≡ true) p h)

  -- where a word is read to marked pairs, it is read from a marked pair
  pub back-marked : IsClosed way.Backward rows es ds → ((a b : ℕ) (k l : List ℕ) → Ends a k → Stops b l → is_marked rows a b ≡ true)
      → (word : List ℕ) (a b : ℕ) (k l : List ℕ) → RunsFrom Ends (StepsBy es) a word k → RunsFrom Stops (StepsBy ds) b word l → is_marked rows a b ≡ true
  back-marked closed goal [] a b k l p q = goal a b k l p q
  back-marked closed goal (c ∷ word) a b k l p q =
      let rest = back-marked closed goal word p.1 q.1 p.2 q.2 p.4 q.4 in
      let e = edge-of es a c p.0 p.1 p.3 in
      let d = edge-of ds b c q.0 q.1 q.3 in
      let there = at-both p.1 q.1 e.1.to d.1.to (sym e.4) (sym d.4) rest in
      at-both e.1.from d.1.from a b e.3 d.3 (closed e.0 d.0 e.1 d.1 e.2 d.2 c e.5 d.5 there)

  -- where a word is read from a marked pair, it is read to one
  pub forth-marked : IsClosed way.Forward rows es ds → (word : List ℕ) (a b : ℕ) (k l : List ℕ) → is_marked rows a b ≡ true
      → RunsFrom Ends (StepsBy es) a word k → RunsFrom Stops (StepsBy ds) b word l → (x y : ℕ) × (m n : List ℕ) × Ends x m × Stops y n × (is_marked rows x y ≡ true)
  forth-marked closed [] a b k l h p q = (a, b, k, l, p, q, h)
  forth-marked closed (c ∷ word) a b k l h p q =
      let e = edge-of es a c p.0 p.1 p.3 in
      let d = edge-of ds b c q.0 q.1 q.3 in
      let here = at-both a b e.1.from d.1.from (sym e.3) (sym d.3) h in
      let there = at-both e.1.to d.1.to p.1 q.1 e.4 d.4 (closed e.0 d.0 e.1 d.1 e.2 d.2 c e.5 d.5 here) in
      forth-marked closed word p.1 q.1 p.2 q.2 there p.4 q.4

pub starts-marked : (machine target : Graph) (goals row : List Bool) (rows : List (List Bool)) → IsClosed way.Backward rows machine.edges target.edges
    → ((i s : ℕ) (e : End) → slice_get machine.ends i ≡ Some e → is_set goals s ≡ true → is_marked rows e.at s ≡ true)
    → ((s : ℕ) → is_set row s ≡ is_marked rows 0 s) → AreStarts machine target goals row
starts-marked machine target goals row rows closed ends first from to are leads =
    first from ∙ back-marked rows machine.edges target.edges (EndsAt machine.ends) (SliceEnds target.registers target.ends to) closed
    (λ a b k l p q. subst (λ x. is_marked rows x b ≡ true) p.4.0 (ends p.0 b p.1 (stands-at machine.ends p.0 p.1 p.2 (sym p.3)) (are b l q)))
    leads.word 0 from leads.cost leads.other leads.reads leads.runs

pub stops-marked : (machine target : Graph) (from : ℕ) (stops : List Bool) (rows : List (List Bool)) → IsClosed way.Forward rows machine.edges target.edges
    → is_marked rows 0 from ≡ true
    → ((i s : ℕ) (e : End) → slice_get machine.ends i ≡ Some e → is_marked rows e.at s ≡ true → is_set stops s ≡ true) → AreStops machine target from stops
stops-marked machine target from stops rows closed first ends s leads =
    let last = forth-marked rows machine.edges target.edges (EndsAt machine.ends) (SliceEnds target.registers target.ends (Some s)) closed
    leads.word 0 from leads.cost leads.other first leads.reads leads.runs in
    let p = last.4 in
    ends p.0 s p.1 (stands-at machine.ends p.0 p.1 p.2 (sym p.3)) (subst (λ x. is_marked rows x s ≡ true) (sym p.4.0) (subst (λ y. is_marked rows last.0 y ≡ true) last.5.0 last.6))

-- what counts as marked for want of marks
pub none-starts : (machine target : Graph) (goals row : List Bool) → row ≡ [] → AreStarts machine target goals row
none-starts machine target goals row e from to are leads = ap (λ r. is_set r from) e

pub none-stops : (machine target : Graph) (from : ℕ) (stops : List Bool) → stops ≡ [] → AreStops machine target from stops
none-stops machine target from stops e s leads = ap (λ r. is_set r s) e

-- a mark more
pub set-here : (marks : List Bool) (a : ℕ) → is_set (slice_set marks a true) a ≡ true
set-here [] zero = refl
set-here [] (suc a) = refl
set-here (m ∷ marks) zero = refl
set-here (m ∷ marks) (suc a) = set-here marks a

pub set-still : (marks : List Bool) (a s : ℕ) → is_set marks s ≡ true → is_set (slice_set marks a true) s ≡ true
set-still [] a s h = h
set-still (m ∷ marks) zero zero h = refl
set-still (m ∷ marks) zero (suc s) h = h
set-still (m ∷ marks) (suc a) zero h = h
set-still (m ∷ marks) (suc a) (suc s) h = set-still marks a s h

-- the ends are goals
pub ends-goals : (target : Graph) (goals : List Bool) → ((i : ℕ) (e : End) → slice_get target.ends i ≡ Some e → is_set goals e.at ≡ true) → AreGoals target goals None
ends-goals target goals h s cost p = subst (λ x. is_set goals x ≡ true) p.4.0 (h p.0 p.1 (stands-at target.ends p.0 p.1 p.2 (sym p.3)))

-- the list from a place on begins with what stands there
pub drop-at : {X : Type 0} (xs : List X) (n : ℕ) (x : X) → slice_get xs n ≡ Some x → drop n xs ≡ x ∷ drop (suc n) xs
drop-at [] n x e = cc
drop-at (y ∷ ys) zero x e = let same : y ≡ x = cc in ap (λ z. z ∷ ys) same
drop-at (y ∷ ys) (suc n) x e = drop-at ys n x e

module _ (ms : Family) (target : Graph) where
  -- behind the first states
  pub lead-drop : (starts rest pieces : List ℕ) → LeadInTurn ms target (starts ++ rest) pieces → LeadInTurn ms target rest (drop (length starts) pieces)
  lead-drop [] rest pieces h = h
  lead-drop (s ∷ starts) rest [] h = absurd h
  lead-drop (s ∷ starts) rest (p ∷ pieces) h = lead-drop starts rest pieces h.1

  -- the goals of what stands before these pieces
  abbrev pub HaveGoals : List ℕ → List Bool → Type 0
  HaveGoals pieces goals = (starts : List ℕ) → LeadInTurn ms target starts pieces → AreGoals target goals (first_of starts)

  pub first-goals : (goals : List Bool) → AreGoals target goals None → HaveGoals [] goals
  first-goals goals h [] lead = h
  first-goals goals h (s ∷ starts) lead = absurd lead

  -- a piece more
  pub row-live : (p : ℕ) (k : Graph) (pieces : List ℕ) (goals row : List Bool) → HasMachine ms p k → HaveGoals pieces goals → AreStarts k target goals row
      → (s : ℕ) (rest : List ℕ) → LeadInTurn ms target (s ∷ rest) (p ∷ pieces) → is_set row s ≡ true
  row-live p k pieces goals row has are starts s rest lead = starts s (first_of rest) (are rest lead.1) (lead.0 k has)

  pub next-goals : (p : ℕ) (pieces : List ℕ) (row : List Bool) → ((s : ℕ) (rest : List ℕ) → LeadInTurn ms target (s ∷ rest) (p ∷ pieces) → is_set row s ≡ true) → HaveGoals (p ∷ pieces) row
  next-goals p pieces row h [] lead = absurd lead
  next-goals p pieces row h (s ∷ rest) lead = λ t cost stop. subst (λ x. is_set row x ≡ true) (sym stop.0) (h s rest lead)

  pub live-none : (rows : List (List Bool)) → rows ≡ [] → AreLive ms target [] rows
  live-none rows e zero s rest lead = absurd lead
  live-none rows e (suc place) s rest lead = absurd lead

  pub live-more : (p : ℕ) (pieces : List ℕ) (row : List Bool) (rows : List (List Bool)) → ((s : ℕ) (rest : List ℕ) → LeadInTurn ms target (s ∷ rest) (p ∷ pieces) → is_set row s ≡ true)
      → AreLive ms target pieces rows → AreLive ms target (p ∷ pieces) (row ∷ rows)
  live-more p pieces row rows h live zero s rest lead = h s rest lead
  live-more p pieces row rows h live (suc place) s rest lead = live place s rest lead

  -- the stops of the next piece are the cuts that may come next
  pub next-marked : (cuts pieces : List ℕ) (p : ℕ) (k : Graph) (from : ℕ) (next : List Bool) → slice_get pieces (length cuts) ≡ Some p → HasMachine ms p k → slice_get (0 ∷ cuts) (length cuts) ≡ Some from
      → AreStops k target from next → AreNext ms target pieces cuts next
  next-marked cuts pieces p k from next is has last stops s rest lead =
      let split = last-of 0 cuts from last in
      let same : (0 ∷ cuts) ++ s ∷ rest ≡ split.0 ++ from ∷ s ∷ rest = ap (λ l. l ++ s ∷ rest) split.1 ∙ append-one split.0 from (s ∷ rest) in
      let size : length split.0 ≡ length cuts = split.2 in
      let there : LeadInTurn ms target (from ∷ s ∷ rest) (drop (length cuts) pieces) =
      subst (λ n. LeadInTurn ms target (from ∷ s ∷ rest) (drop n pieces)) size (lead-drop split.0 (from ∷ s ∷ rest) pieces (subst (λ l. LeadInTurn ms target l pieces) same lead)) in
      let here = subst (LeadInTurn ms target (from ∷ s ∷ rest)) (drop-at pieces (length cuts) p is) there in
      stops s (here.0 k has)
    where
      append-one : (xs : List ℕ) (x : ℕ) (ys : List ℕ) → (xs ++ x ∷ []) ++ ys ≡ xs ++ x ∷ ys
      append-one [] x ys = refl
      append-one (z ∷ zs) x ys = ap (λ l. z ∷ l) (append-one zs x ys)

      last-of : (first : ℕ) (xs : List ℕ) (x : ℕ) → slice_get (first ∷ xs) (length xs) ≡ Some x → (init : List ℕ) × ((first ∷ xs) ≡ init ++ x ∷ []) × (length init ≡ length xs)
      last-of first [] x e = let same : first ≡ x = cc in ([], ap (λ z. z ∷ []) same, refl)
      last-of first (y ∷ ys) x e = let r = last-of y ys x e in (first ∷ r.0, ap (λ l. first ∷ l) r.1, omega (arith, r.2))

-- a variable has one machine
pub one-machine : (ms : Family) (v : ℕ) (k m : Graph) → HasMachine ms v k → HasMachine ms v m → k ≡ m
one-machine ms v k m p q = let e : Some (Some k) ≡ Some (Some m) = sym p ∙ q in cc

-- nothing stands behind the end
pub drop-all : {X : Type 0} (xs : List X) → drop (length xs) xs ≡ []
drop-all [] = refl
drop-all (x ∷ xs) = drop-all xs

-- a machine of a family reads its word
pub conf-accepts : (width : ℕ) (ms : Family) (words : Words) (totals : List ℕ) → Conf width ms words totals → (v : ℕ) (k : Graph) → HasMachine ms v k → (a : List ℕ) × Accepts k (words v) a
conf-accepts width [] words totals c v k h = cc
conf-accepts width (None ∷ ms) words totals c zero k h = cc
conf-accepts width (None ∷ ms) words totals c (suc v) k h = conf-accepts width ms (after words) totals c v k h
conf-accepts width (Some m ∷ ms) words totals c zero k h = let same : m ≡ k = cc in (c.0, subst (λ g. Accepts g (words 0) c.0) same c.2)
conf-accepts width (Some m ∷ ms) words totals c (suc v) k h = conf-accepts width ms (after words) c.1 c.3 v k h

-- runs on the words of the pieces in turn
turn-leads : (ms : Family) (m : Graph) (words : Words) (starts pieces : List ℕ) (cost : List ℕ) → RunsInTurn m starts (map words pieces) cost
    → ((p : ℕ) → Contains pieces p → (k : Graph) → HasMachine ms p k → (a : List ℕ) × Accepts k (words p) a) → LeadInTurn ms m starts pieces
turn-leads ms m words [] [] cost h reads = tt
turn-leads ms m words [] (p ∷ pieces) cost h reads = h
turn-leads ms m words (s ∷ starts) [] cost h reads = h
turn-leads ms m words (s ∷ starts) (p ∷ pieces) cost h reads = (
  λ k has. (let r = reads p (zero, omega arith, refl) k has in record { word = words p; cost = r.0; other = h.0; reads = r.1; runs = h.2 }),
  turn-leads ms m words starts pieces h.1 h.3 (λ q c. reads q (suc c.0, omega (arith, c.1), c.2)),
)

-- where a configuration is cut, words lead through the cuts
pub conf-leads : (width : ℕ) (ms : Family) (x : ℕ) (pieces cuts : List ℕ) (words : Words) (totals : List ℕ) (m : Graph) → HasMachine ms x m
    → ((p : ℕ) → Contains pieces p → p ≡ x → ⊥) → ConfCut width ms x pieces cuts words totals → LeadInTurn ms m (0 ∷ cuts) pieces
conf-leads width ms x pieces cuts words totals m has others c =
    let same : c.0 ≡ m = one-machine ms x c.0 m c.3 has in
    subst (λ g. LeadInTurn ms g (0 ∷ cuts) pieces) same
    (turn-leads ms c.0 words (0 ∷ cuts) pieces c.1 c.4
    (λ p stands k there. conf-accepts width (without ms x) words c.2 c.5 p k (set-other ms x p None (others p stands) ∙ there)))
