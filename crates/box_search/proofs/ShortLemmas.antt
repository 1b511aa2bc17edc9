-- A run has a short run with the same cost: where a state comes twice with the same cost still to pay, what lies between is left out.
use Rattle.std.proofs.Common.{◌≡◌, ℕ, zero, suc, ◌+◌, ◌*◌, ◌<◌, ◌≤◌, Bool, true, false, cond, unsigned_abs, ◌-ℤ◌, eqb, List, [], ◌∷◌, length, map, Contains, ℤ, pos, refl, ap, sym, ◌∙◌, subst, arith}
use Rattle.std.specs.List.{list_any, AllZip}
use Rattle.std.proofs.lemmas.Int.{ints}
use Rattle.std.proofs.lemmas.Bool.Decides.{nat_tests}
use Rattle.std.proofs.lemmas.List.Elements.{All-head, All-tail}
use Rattle.std.proofs.Math.Nat.{mul-le-mul, mul-le-mul_left, mul-le-mul_right, mul_comm, suc-mul}
use Rattle.machine_core.specs.declared.graph.Graph.{Graph}
use Rattle.machine_core.specs.declared.run.Run.{Run}
use Rattle.machine_core.specs.Costs.{add_costs}
use Rattle.machine_core.specs.CostLaws.{add_costs-length, zeros-length, top_by-at}
use Rattle.machine_core.specs.Edges.{EndsAt, StepsBy}
use Rattle.machine_core.specs.EdgeLaws.{step_target, step_cost, end_cost, run_width}
use Rattle.machine_core.specs.Graphs.{IsRunOf}
use Rattle.machine_core.specs.Language.{RunsFrom}
use Rattle.machine_core.specs.LanguageLaws.{runs_width}
use Rattle.machine_core.specs.Runs.{run_total}
use Rattle.machine_core.specs.RunLaws.{run_accepted, accepted_run}
use Rattle.sv_linear.specs.declared.row.Row.{Row}
use Rattle.search_hits.specs.declared.region.Region.{Region}
use Rattle.search_hits.specs.Hits.{AreRunsOf, HaveRegisters, runs_total, characters}
use Rattle.search_hits.specs.Regions.{IsWithin, whole_side, register_points, side_points, integer_points, points, greatest_states, IsHitWithin, IsShortHit}
use Rattle.std.specs.Prelude.{int_le}
use Rattle.sv_list.specs.Bools.{or-elim}
use Rattle.box_layers.specs.Layers.{AreWithinGreatest}
use Rattle.box_layers.specs.LayerLaws.{length-uppers}
use Rattle.box_search.specs.Places.{number_of, numbers_below}
use Rattle.box_search.proofs.DigitLemmas.{number-below, number-same, digit-below, digit-same}
use Rattle.box_search.proofs.DifferentLemmas.{AreDifferent, different-few}

-- of costs that add up below some numbers each is below them
pub below-parts : (step rest us : List ℕ) → length step ≡ length rest → AreWithinGreatest (add_costs step rest) us → AreWithinGreatest step us × AreWithinGreatest rest us
below-parts [] [] us e h = (h, h)
below-parts [] (y ∷ ys) us e h = absurd (omega arith)
below-parts (x ∷ xs) [] us e h = absurd (omega arith)
below-parts (x ∷ xs) (y ∷ ys) [] e h = absurd h
below-parts (x ∷ xs) (y ∷ ys) (u ∷ us) e h =
    let r = below-parts xs ys us (omega arith) h.1 in
    let sum = h.0 in
    ((omega arith, r.0), (omega arith, r.1))

module _ (m : Graph) (us : List ℕ) where
  -- a number for a state and the cost that is still to be paid from there
  abbrev code : ℕ → List ℕ → ℕ
  code s cost = s + m.states * number_of cost us

  abbrev IsNode : ℕ → List ℕ → Type 0
  IsNode s cost = (s < m.states) × AreWithinGreatest cost us

  -- a run from a state, with the numbers of its states
  abbrev Coded : ℕ → List ℕ → List ℕ → List ℕ → Type 0
  Coded s word cost [] = ⊥
  Coded s [] cost (n ∷ ns) = (n ≡ code s cost) × (s < m.states) × AreWithinGreatest cost us × (ns ≡ []) × EndsAt m.ends s cost
  Coded s (c ∷ word) cost (n ∷ ns) = (step : List ℕ) × (to : ℕ) × (rest : List ℕ) × (n ≡ code s cost) × (s < m.states) × AreWithinGreatest cost us
      × StepsBy m.edges s c step to × Coded to word rest ns × (cost ≡ add_costs step rest)

  code-same : (s t : ℕ) (a b : List ℕ) → IsNode s a → IsNode t b → code s a ≡ code t b → (s ≡ t) × (a ≡ b)
  code-same s t a b h g e =
      let r = digit-same s t m.states (number_of a us) (number_of b us) h.0 g.0 e in
      (r.0, number-same a b us h.1 g.1 r.1)

  code-below : (s : ℕ) (a : List ℕ) → IsNode s a → code s a < m.states * numbers_below us
  code-below s a h = digit-below s m.states (number_of a us) (numbers_below us) h.0 (number-below a us h.1)

  coded-run : (word : List ℕ) (s : ℕ) (cost ns : List ℕ) → Coded s word cost ns → RunsFrom (EndsAt m.ends) (StepsBy m.edges) s word cost × (length ns ≡ suc (length word))
  coded-run [] s cost [] h = absurd h
  coded-run [] s cost (n ∷ ns) h = (h.4, let e = ap length h.3 in omega arith)
  coded-run (c ∷ word) s cost [] h = absurd h
  coded-run (c ∷ word) s cost (n ∷ ns) h =
      let r = coded-run word h.1 h.2 ns h.7 in
      ((h.0, h.1, h.2, h.6, r.0, h.8), ap suc r.1)

  -- a number of the run is that of some later run
  coded-at : (word : List ℕ) (s : ℕ) (cost ns : List ℕ) → Coded s word cost ns → AreDifferent ns → (q : ℕ) → list_any (eqb q) ns ≡ true
      → (t : ℕ) × (rest more ms : List ℕ) × Coded t more rest ms × AreDifferent ms × (q ≡ code t rest) × IsNode t rest
  coded-at [] s cost [] h d q e = absurd h
  coded-at [] s cost (n ∷ ns) h d q e =
      or-elim (eqb q n) (list_any (eqb q) ns) e
      (λ same. (s, cost, [], n ∷ ns, h, d, (let z : q ≡ n = grind (arith, nat_tests) in z ∙ h.0), (h.1, h.2)))
      (λ later. absurd (let z : list_any (eqb q) ns ≡ false = ap (list_any (eqb q)) h.3 in cc))
  coded-at (c ∷ word) s cost [] h d q e = absurd h
  coded-at (c ∷ word) s cost (n ∷ ns) h d q e =
      or-elim (eqb q n) (list_any (eqb q) ns) e
      (λ same. (s, cost, c ∷ word, n ∷ ns, h, d, (let z : q ≡ n = grind (arith, nat_tests) in z ∙ h.3), (h.4, h.5)))
      (coded-at word h.1 h.2 ns h.7 d.1 q)

  coded-below : (word : List ℕ) (s : ℕ) (cost ns : List ℕ) → Coded s word cost ns → AreDifferent ns → (q : ℕ) → list_any (eqb q) ns ≡ true → q < m.states * numbers_below us
  coded-below word s cost ns h d q e =
      let at = coded-at word s cost ns h d q e in
      subst (λ n. n < m.states * numbers_below us) (sym at.6) (code-below at.0 at.1 at.7)

  -- a run without a repeated number
  abbrev HasDifferent : ℕ → List ℕ → Type 0
  HasDifferent s cost = (word ns : List ℕ) × Coded s word cost ns × AreDifferent ns

  width-of : (word : List ℕ) (s : ℕ) (cost : List ℕ) → s < m.states → RunsFrom (EndsAt m.ends) (StepsBy m.edges) s word cost → length cost ≡ m.registers
  width-of word s cost h r = runs_width (λ s. s < m.states) (StepsBy m.edges) (λ s t c k h st. step_target m.states m.registers m.edges m.ends m.formed s t c k st) (EndsAt m.ends) m.registers
      (λ s t c k h st. (step_cost m.states m.registers m.edges m.ends m.formed s t c k st).entries)
      (λ s k h st. (end_cost m.states m.registers m.edges m.ends m.formed s k st).entries) word s cost h r

  pub run-different : (word : List ℕ) (s : ℕ) (cost : List ℕ) → s < m.states → AreWithinGreatest cost us → RunsFrom (EndsAt m.ends) (StepsBy m.edges) s word cost → HasDifferent s cost
  run-different [] s cost inside low r = ([], code s cost ∷ [], (refl, inside, low, refl, r), (refl, tt))
  run-different (c ∷ word) s cost inside low r =
      let next = step_target m.states m.registers m.edges m.ends m.formed s r.1 c r.0 r.3 in
      let wide = (step_cost m.states m.registers m.edges m.ends m.formed s r.1 c r.0 r.3).entries ∙ sym (width-of word r.1 r.2 next r.4) in
      let parts = below-parts r.0 r.2 us wide (subst (λ k. AreWithinGreatest k us) r.5 low) in
      let rest = run-different word r.1 r.2 next parts.1 r.4 in
      by_seen rest.0 rest.1 rest.2 rest.3 (list_any (eqb (code s cost)) rest.1) refl
    where
      by_seen : (more ns : List ℕ) → Coded r.1 more r.2 ns → AreDifferent ns → (b : Bool) → list_any (eqb (code s cost)) ns ≡ b → HasDifferent s cost
      by_seen more ns coded d true e =
          let at = coded-at more r.1 r.2 ns coded d (code s cost) e in
          let same = code-same s at.0 cost at.1 (inside, low) at.7 at.6 in
          (at.2, at.3, subst (λ k. Coded s at.2 k at.3) (sym same.1) (subst (λ t. Coded t at.2 at.1 at.3) (sym same.0) at.4), at.5)
      by_seen more ns coded d false e = (c ∷ more, code s cost ∷ ns, (r.0, r.1, r.2, refl, inside, low, r.3, coded, r.5), (e, d))

  -- each run whose cost is below some numbers has one with the same cost and few characters
  pub run-short : (run : Run ℕ) → IsRunOf m run → AreWithinGreatest (run_total run) us
      → (short : Run ℕ) × IsRunOf m short × (run_total short ≡ run_total run) × (length short.word < m.states * numbers_below us)
  run-short run is low =
      let accepted = run_accepted (StepsBy m.edges) (EndsAt m.ends) 0 run is in
      let h = run-different run.word 0 (run_total run) m.started low accepted in
      let c = coded-run h.0 0 (run_total run) h.1 h.2 in
      let few = different-few h.1 (m.states * numbers_below us) h.3 (coded-below h.0 0 (run_total run) h.1 h.2 h.3) in
      let size = c.1 in
      let r = accepted_run (StepsBy m.edges) (EndsAt m.ends) 0 h.0 (run_total run) c.0 in
      (r.0, r.1, r.3, (let w = ap length r.2 in omega arith))

-- what runs cost has an entry for each register
run-wide : (m : Graph) (r : Run ℕ) → IsRunOf m r → length (run_total r) ≡ m.registers
run-wide m r is = run_width m.states m.registers m.edges m.ends m.formed r.word 0 (run_total r) (run_accepted (StepsBy m.edges) (EndsAt m.ends) 0 r is)

pub runs-wide : (registers : ℕ) (ms : List Graph) (rs : List (Run ℕ)) → HaveRegisters registers ms → AreRunsOf ms rs → length (runs_total registers rs) ≡ registers
runs-wide registers [] [] same runs = zeros-length registers
runs-wide registers [] (r ∷ rs) same runs = absurd runs
runs-wide registers (m ∷ ms) [] same runs = absurd runs
runs-wide registers (m ∷ ms) (r ∷ rs) same runs =
    add_costs-length (run_total r) (runs_total registers rs) registers (run-wide m r runs.0 ∙ All-head (λ g. g.registers ≡ registers) m ms same)
    (runs-wide registers ms rs (All-tail (λ g. g.registers ≡ registers) m ms same) runs.1)

-- all machines
pub family-short : (top registers : ℕ) (us : List ℕ) (ms : List Graph) (rs : List (Run ℕ)) → length us ≡ registers → HaveRegisters registers ms → ((m : Graph) → Contains ms m → m.states ≤ top)
    → AreRunsOf ms rs → AreWithinGreatest (runs_total registers rs) us
    → (short : List (Run ℕ)) × AreRunsOf ms short × (runs_total registers short ≡ runs_total registers rs) × (characters short ≤ length ms * (top * numbers_below us))
family-short top registers us [] [] wide same tops runs low = ([], tt, refl, omega arith)
family-short top registers us [] (r ∷ rs) wide same tops runs low = absurd runs
family-short top registers us (m ∷ ms) [] wide same tops runs low = absurd runs
family-short top registers us (m ∷ ms) (r ∷ rs) wide same tops runs low =
    let own = run-wide m r runs.0 ∙ All-head (λ g. g.registers ≡ registers) m ms same in
    let others = runs-wide registers ms rs (All-tail (λ g. g.registers ≡ registers) m ms same) runs.1 in
    let parts = below-parts (run_total r) (runs_total registers rs) us (own ∙ sym others) low in
    let here = run-short m us r runs.0 parts.0 in
    let rest = family-short top registers us ms rs wide (All-tail (λ g. g.registers ≡ registers) m ms same) (λ g k. tops g (suc k.0, (let b = k.1 in omega arith), k.2)) runs.1 parts.1 in
    let most : m.states * numbers_below us ≤ top * numbers_below us = mul-le-mul_right (numbers_below us) (tops m (zero, omega arith, refl)) in
    let count = suc-mul (length ms) (top * numbers_below us) in
    let a = here.3 in
    let b = rest.3 in
    (here.0 ∷ rest.0, (here.1, rest.1), ap (λ k. add_costs k (runs_total registers rest.0)) here.2 ∙ ap (add_costs (run_total r)) rest.2, omega arith)

-- the totals of a region, below the upper ends of its sides
pub totals-below : (sides : List (ℕ × ℕ)) (totals : List ℕ) → AllZip IsWithin (map whole_side sides) (map pos totals) → AreWithinGreatest totals (map (λ s. s.1) sides)
totals-below [] [] h = tt
totals-below [] (t ∷ ts) h = absurd h
totals-below (s ∷ ss) [] h = absurd h
totals-below (s ∷ ss) (t ∷ ts) h = let b = h.0.1 in (omega (arith, ints), totals-below ss ts h.1)

points-are : (sides : List (ℕ × ℕ)) → numbers_below (map (λ s. s.1) sides) ≡ register_points sides
points-are [] = refl
points-are (s ∷ ss) = ap (λ n. (s.1 + 1) * n) (points-are ss)

side-some : (s : ℤ × ℤ) → 0 < side_points s
side-some s = by (int_le s.0 s.1)
  where
    by : (b : Bool) → 0 < cond b (unsigned_abs (s.1 -ℤ s.0) + 1) 1
    by true = omega arith
    by false = omega arith

integers-some : (sides : List (ℤ × ℤ)) → 0 < integer_points sides
integers-some [] = omega arith
integers-some (s ∷ ss) =
    let a = side-some s in
    let b = integers-some ss in
    let m : 1 * 1 ≤ side_points s * integer_points ss = mul-le-mul a b in
    omega arith

-- so many characters at most for each machine, state and totals
pub few-characters : (machines : List Graph) (region : Region) (c : ℕ) → c ≤ length machines * (greatest_states machines * register_points region.registers) → c ≤ greatest_states machines * points region * length machines
few-characters machines region c le =
    let some = integers-some region.integers in
    let p : register_points region.registers * 1 ≤ register_points region.registers * integer_points region.integers = mul-le-mul_left (register_points region.registers) some in
    let one : register_points region.registers * 1 ≡ register_points region.registers = omega arith in
    let q : greatest_states machines * register_points region.registers ≤ greatest_states machines * points region = mul-le-mul_left (greatest_states machines) (omega arith) in
    let r : length machines * (greatest_states machines * register_points region.registers) ≤ length machines * (greatest_states machines * points region) = mul-le-mul_left (length machines) q in
    let e = mul_comm (length machines) (greatest_states machines * points region) in
    omega arith

pub hit-short : (machines : List Graph) (region : Region) → HaveRegisters (length region.registers) machines
    → (integers : ℕ) (rows : List Row) (runs : List (Run ℕ)) (numbers : List ℤ) → IsHitWithin machines integers rows region runs numbers
    → (short : List (Run ℕ)) × IsShortHit machines integers rows region short numbers
hit-short machines region same integers rows runs numbers h =
    let f = family-short (greatest_states machines) (length region.registers) (map (λ (s : ℕ × ℕ). s.1) region.registers) machines runs
    (length-uppers region.registers) same (λ m k. top_by-at (λ (g : Graph). g.states) machines m k) h.hit.each
    (totals-below region.registers (runs_total (length region.registers) runs) h.within.registers) in (
      f.0,
      record {
        hit = record {
          hit = record { each = f.1; meets = rw f.2 h.hit.meets };
          within = record { not_empty = h.within.not_empty; numbers = h.within.numbers; registers = rw f.2 h.within.registers };
        };
        short = few-characters machines region (characters f.0) (rw (points-are region.registers) at f.3);
      },
    )
