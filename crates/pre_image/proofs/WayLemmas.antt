-- Paths of a machine on a word, step by step, by what is left to be paid.
use Rattle.std.proofs.Common.{rules, nat_lt, Bool, true, false, ◌≡◌, ℕ, zero, suc, ◌+◌, ◌<◌, ◌≤◌, ◌↔◌, IsTrue, All, List, [], ◌∷◌, ◌++◌, length, length-append, take, drop, get_or, Any, Contains, refl, sym, ap, ap₂, ◌∙◌, subst, arith}
use Rattle.std.proofs.lemmas.List.{take_more, take_all, length-take-le}
use Rattle.machine_core.specs.declared.machine.Move.{Move}
use Rattle.machine_core.specs.declared.graph.Graph.{Graph}
use Rattle.machine_core.specs.Costs.{add_costs, zeros, total_of}
use Rattle.machine_core.specs.CostLaws.{add_costs-assoc, add_costs-zeros, zeros-add_costs, total_of-append}
use Rattle.machine_core.specs.Moves.{Moves}
use Rattle.sv_list.specs.Lists.{Any-contains, contained}
use Rattle.machine_core.specs.Edges.{StepsBy}
use Rattle.machine_core.specs.Runs.{IsPath}
use Rattle.machine_core.specs.RunLaws.{path_push, path_stops}
use Rattle.machine_core.specs.EdgeLaws.{step_target, step_most}
use Rattle.machine_core.specs.EdgeLaws.{path_width}
use Rattle.pre_image.proofs.JoinLemmas.{behind}
use Rattle.sv_terms.specs.Language.{Word}
use Rattle.pre_image.specs.Leading.{Goes, AreLeads}
use Rattle.pre_image.specs.Lifts.{EndsAs, GoesOnAt, Works, IsRest, IsWay, IsNextStep, IsTried, IsUnderway}
use Rattle.pre_image.specs.declared.ways.NextStep.{NextStep}
use Rattle.sv_word.specs.Ranges.{in_ranges, IsInhabited, least_of}
use Rattle.pre_image.proofs.LeadLemmas.{lead-path}

-- one register more
pub rest-more : (whole part rest new : List ℕ) (i left : ℕ) → i < length whole → i < length part → new ≡ rest ++ left ∷ [] → get_or whole i 0 ≡ get_or part i 0 + left
    → IsRest (take i whole) (take i part) rest → IsRest (take (i + 1) whole) (take (i + 1) part) new
rest-more whole part rest new i left lt lt' en sum h = record {
  width =
      let n = ap length en ∙ length-append rest (left ∷ []) in
      let a = h.width in
      let b = length-take-le i whole (omega (arith, lt)) in
      let d = length-take-le (i + 1) whole (omega (arith, lt)) in
      omega arith;
  sum =
      let w = take_more whole i 0 lt in
      let p = take_more part i 0 lt' in
      let size : length (take i part) ≡ length rest =
      (let a = length-take-le i part (omega (arith, lt')) in let b = length-take-le i whole (omega (arith, lt)) in let e = h.width in omega arith) in
      ap₂ add_costs p en ∙ snoc (take i part) rest (get_or part i 0) left size ∙ ap₂ (λ (s : List ℕ) (z : ℕ). s ++ z ∷ []) h.sum (sym sum) ∙ sym w;
}
  where
    snoc : (a b : List ℕ) (y left : ℕ) → length a ≡ length b → add_costs (a ++ y ∷ []) (b ++ left ∷ []) ≡ add_costs a b ++ (y + left) ∷ []
    snoc [] [] y left e = refl
    snoc [] (z ∷ b) y left e = absurd (omega (arith, e))
    snoc (z ∷ a) [] y left e = absurd (omega (arith, e))
    snoc (u ∷ a) (v ∷ b) y left e = ap (λ l. (u + v) ∷ l) (snoc a b y left (omega (arith, e)))

-- one of the leads on a word is a path
pub lead-goes : (m : Graph) (s : ℕ) (W : ℕ → List ℕ) (word : Word) → ((c : ℕ) → W c ≡ word) → (leads : List (Move ℕ)) → AreLeads m s 0 0 W leads → (to : ℕ) (cost : List ℕ)
    → Any (EndsAs to cost) leads → Goes m s word cost to
lead-goes m s W word same leads h to cost a =
    let f = contained (EndsAs to cost) leads a in
    let p = lead-path m s 0 0 W leads h f.0 f.1 in
    subst (λ w. Goes m s w cost to) (same p.0) (subst (λ k. Goes m s (W p.0) k to) f.2.1 (subst (Goes m s (W p.0) f.0.cost) f.2.0 p.1))

-- and each path is one of the leads
pub goes-lead : (m : Graph) (s : ℕ) (W : ℕ → List ℕ) (word : Word) → ((c : ℕ) → W c ≡ word) → (leads : List (Move ℕ)) → AreLeads m s 0 0 W leads → (to : ℕ) (cost : List ℕ)
    → Goes m s word cost to → Any (EndsAs to cost) leads
goes-lead m s W word same leads h to cost g =
    let f = contained (Moves 0 cost to) leads ((h.exact 0 cost to).0 (omega arith, omega arith, subst (λ w. Goes m s w cost to) (sym (same 0)) g)) in
    Any-contains (EndsAs to cost) leads f.0 f.1 (f.2.2, f.2.1)

pub not-less : {a b : ℕ} → (a < b → ⊥) → b ≤ a
not-less {a} {b} n = by (nat_lt a b) refl
  where
    by : (t : Bool) → nat_lt a b ≡ t → b ≤ a
    by true e = absurd (n (search (rules, e)))
    by false e = search (rules, e)

-- nothing is left where a part is greater at some register
pub no-rest : (whole part : List ℕ) (i : ℕ) → i < length whole → get_or whole i 0 < get_or part i 0 → length part ≡ length whole → (rest : List ℕ) → IsRest whole part rest → ⊥
no-rest whole part i lt less size rest h = by whole part rest i lt less h.sum
  where
    by : (whole part rest : List ℕ) (i : ℕ) → i < length whole → get_or whole i 0 < get_or part i 0 → add_costs part rest ≡ whole → ⊥
    by [] part rest i lt less e = omega (arith, lt)
    by (w ∷ whole) [] rest i lt less e = cc
    by (w ∷ whole) (p ∷ part) [] i lt less e = cc
    by (w ∷ whole) (p ∷ part) (r ∷ rest) zero lt less e = let same : p + r ≡ w = cc in omega (arith, less, same)
    by (w ∷ whole) (p ∷ part) (r ∷ rest) (suc i) lt less e = let same : add_costs part rest ≡ whole = cc in by whole part rest i (omega (arith, lt)) less same

module _ (m : Graph) (from : ℕ) (word : Word) (to : ℕ) (cost : List ℕ) where
  pub way-first : from < m.states → length cost ≡ m.registers → Goes m from word cost to → (left : List ℕ) → left ≡ cost → IsUnderway m from word to cost 0 from left [] []
  way-first lt wide g left e = record {
    path = refl;
    goes = subst (λ k. Goes m from word k to) (sym e) g;
    sum = zeros-add_costs left m.registers (ap length e ∙ wide) ∙ e;
    inside = lt;
    width = ap length e ∙ wide;
  }

  pub way-next : (i at : ℕ) (left : List ℕ) (states : List ℕ) (costs : List (List ℕ)) → i < length word → IsUnderway m from word to cost i at left states costs
      → (c : ℕ) → c ≡ get_or word i 0 → (rest : Word) → rest ≡ drop (i + 1) word → (paid : List ℕ) (next : ℕ) (more : List ℕ) → IsNextStep m at c rest to left paid next more
      → IsUnderway m from word to cost (i + 1) next more (states ++ next ∷ []) (costs ++ paid ∷ [])
  way-next i at left states costs lt h c ec rest er paid next more n = record {
    path = subst (λ w. IsPath (StepsBy m.edges) from (states ++ next ∷ []) w (costs ++ paid ∷ []) next) (sym (take_more word i 0 lt ∙ ap (λ z. take i word ++ z ∷ []) (sym ec)))
        (path_push (StepsBy m.edges) from states (take i word) costs at c paid next h.path n.step);
    goes = subst (λ w. Goes m next w more to) er n.goes;
    sum = ap (λ l. add_costs l more) (total_of-append costs (paid ∷ []) (zeros m.registers) ∙ behind costs (add_costs paid (zeros m.registers)) m.registers (add-zeros-width))
        ∙ add_costs-assoc (total_of costs (zeros m.registers)) (add_costs paid (zeros m.registers)) more
        ∙ ap (λ l. add_costs (total_of costs (zeros m.registers)) (add_costs l more)) (add_costs-zeros paid m.registers wide)
        ∙ ap (add_costs (total_of costs (zeros m.registers))) n.sum ∙ h.sum;
    inside = step_target m.states m.registers m.edges m.ends m.formed at next c paid n.step;
    width = path_width m.states m.registers m.edges m.ends m.formed to rest next more n.goes;
  }
    where
      wide : length paid ≡ m.registers
      wide = (step_most m.states m.registers m.edges m.ends m.formed at next c paid n.step).entries

      add-zeros-width : length (add_costs paid (zeros m.registers)) ≡ m.registers
      add-zeros-width = ap length (add_costs-zeros paid m.registers wide) ∙ wide

  pub way-last : (i at : ℕ) (left : List ℕ) (states : List ℕ) (costs : List (List ℕ)) → length word ≤ i → IsUnderway m from word to cost i at left states costs → IsWay m from word to cost states costs
  way-last i at left states costs end h =
      let none = subst (λ w. Goes m at w left to) (drop-end word i end) h.goes in
      record {
        path = subst (λ s. IsPath (StepsBy m.edges) from states word costs s) none.0 (subst (λ w. IsPath (StepsBy m.edges) from states w costs at) (take_all i word end) h.path);
        total = sym (add_costs-zeros (total_of costs (zeros m.registers)) m.registers size) ∙ ap (add_costs (total_of costs (zeros m.registers))) (sym none.1) ∙ h.sum;
      }
    where
      drop-end : (l : Word) (n : ℕ) → length l ≤ n → drop n l ≡ []
      drop-end [] zero e = refl
      drop-end [] (suc n) e = refl
      drop-end (x ∷ l) zero e = absurd (omega (arith, e))
      drop-end (x ∷ l) (suc n) e = drop-end l n (omega (arith, e))

      size : length (total_of costs (zeros m.registers)) ≡ m.registers
      size = path_width m.states m.registers m.edges m.ends m.formed at (take i word) from (total_of costs (zeros m.registers)) (path_stops (StepsBy m.edges) m.registers from states (take i word) costs at h.path)

-- a move that is listed is a step on some character
pub move-steps : (m : Graph) (at : ℕ) (steps : List (Move ℕ)) → ((c : ℕ) (cost : List ℕ) (to : ℕ) → StepsBy m.edges at c cost to ↔ Any (Moves c cost to) steps)
    → All (λ (l : Move ℕ). IsInhabited l.on) steps → (s : Move ℕ) → Contains steps s → (s.to < m.states) × (length s.cost ≡ m.registers)
move-steps m at steps exact inhabited s i =
    let on = subst (λ (l : Move ℕ). IsInhabited l.on) i.2 (inhabited i.0 s i.1) in
    let step = (exact (least_of s.on) s.cost s.to).1 (Any-contains (Moves (least_of s.on) s.cost s.to) steps s i (on, refl, refl)) in (
      step_target m.states m.registers m.edges m.ends m.formed at s.to (least_of s.on) s.cost step,
      (step_most m.states m.registers m.edges m.ends m.formed at s.to (least_of s.on) s.cost step).entries,
    )

pub tried-next : (m : Graph) (at c : ℕ) (steps : List (Move ℕ)) → ((d : ℕ) (cost : List ℕ) (to : ℕ) → StepsBy m.edges at d cost to ↔ Any (Moves d cost to) steps)
    → (s : Move ℕ) → Contains steps s → IsTrue (in_ranges s.on c) → (rest : Word) (to : ℕ) (cost : List ℕ) (n : NextStep) → IsTried m s rest to cost n → IsNextStep m at c rest to cost n.cost n.to n.left
tried-next m at c steps exact s i on rest to cost n t = record {
  step = subst (λ k. StepsBy m.edges at c k n.to) (sym t.paid) (subst (StepsBy m.edges at c s.cost) (sym t.next) ((exact c s.cost s.to).1 (Any-contains (Moves c s.cost s.to) steps s i (on, refl, refl))));
  goes = t.goes;
  sum = t.sum;
}

-- what is left of a cost is one list
pub left-unique : (part a b : List ℕ) → length a ≡ length part → length b ≡ length part → add_costs part a ≡ add_costs part b → a ≡ b
left-unique [] [] [] la lb e = refl
left-unique [] (x ∷ a) b la lb e = absurd (omega (arith, la))
left-unique [] [] (y ∷ b) la lb e = absurd (omega (arith, lb))
left-unique (p ∷ part) [] b la lb e = absurd (omega (arith, la))
left-unique (p ∷ part) (x ∷ a) [] la lb e = absurd (omega (arith, lb))
left-unique (p ∷ part) (x ∷ a) (y ∷ b) la lb e =
    let head : p + x ≡ p + y = cc in
    let tail : add_costs part a ≡ add_costs part b = cc in
    let same : x ≡ y = omega (arith, head) in
    ap₂ (λ (n : ℕ) (l : List ℕ). n ∷ l) same (left-unique part a b (omega (arith, la)) (omega (arith, lb)) tail)

-- behind the step the machine goes on at just what is left
pub left-goes : (m : Graph) (s : Move ℕ) (word : List ℕ) (to : ℕ) (cost left other : List ℕ) → length s.cost ≡ m.registers → length cost ≡ m.registers
    → IsRest cost s.cost left → GoesOnAt m s word to cost other → Goes m s.to word left to
left-goes m s word to cost left other wide whole r l =
    let size : length other ≡ m.registers = path_width m.states m.registers m.edges m.ends m.formed to word s.to other l.goes in
    let same : other ≡ left = left-unique s.cost other left (size ∙ sym wide) (r.width ∙ whole ∙ sym wide) (l.sum ∙ sym r.sum) in
    subst (λ k. Goes m s.to word k to) same l.goes

-- where nothing is left there is no such step
pub left-rest : (m : Graph) (s : Move ℕ) (word : List ℕ) (to : ℕ) (cost other : List ℕ) → length cost ≡ m.registers → GoesOnAt m s word to cost other → IsRest cost s.cost other
left-rest m s word to cost other whole l = record { width = path_width m.states m.registers m.edges m.ends m.formed to word s.to other l.goes ∙ sym whole; sum = l.sum }

-- some listed move works where the machine goes along the whole
pub some-works : (m : Graph) (at c : ℕ) (rest : List ℕ) (to : ℕ) (cost : List ℕ) (steps : List (Move ℕ)) → ((d : ℕ) (k : List ℕ) (t : ℕ) → StepsBy m.edges at d k t ↔ Any (Moves d k t) steps)
    → Goes m at (c ∷ rest) cost to → Any (Works m c rest to cost) steps
some-works m at c rest to cost steps exact g =
    let f = contained (Moves c g.0 g.1) steps ((exact c g.0 g.1).0 g.3) in
    Any-contains (Works m c rest to cost) steps f.0 f.1 (
      f.2.0,
      g.2,
      record {
        goes = subst (λ t. Goes m t rest g.2 to) (sym f.2.2) g.4;
        sum = ap (λ k. add_costs k g.2) f.2.1 ∙ sym g.5;
      },
    )
