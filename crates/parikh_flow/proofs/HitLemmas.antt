-- Runs for the counts of a solution are a hit.
use Rattle.std.proofs.Common.{◌≡◌, ℕ, zero, suc, ◌+◌, ◌-◌, ◌<◌, ◌≤◌, ℤ, pos, neg_ℤ, ◌+ℤ◌, ◌*ℤ◌, ◌≤ℤ◌, List, [], ◌∷◌, ◌++◌, length, map, take, drop, All, Option, Some, None, IfSome, get_or, slice_index, slice_set, refl, ap, sym, ◌∙◌, subst, arith}
use Rattle.std.specs.List.{range_with_len, AllByRecursion}
use Rattle.std.proofs.lemmas.Int.{ints}
use Rattle.std.proofs.lemmas.List.Elements.{All-nil, All-cons, All-head, All-tail}
use Rattle.sv_linear.specs.Terms.{terms_value}
use Rattle.sv_linear.specs.Rows.{MeetsRow, NameUnknowns, unknowns_of}
use Rattle.sv_linear.specs.declared.row.Row.{Row}
use Rattle.sv_linear.proofs.Ascending.{terms_value-append}
use Rattle.machine_core.specs.declared.edge.Edge.{Edge}
use Rattle.machine_core.specs.declared.graph.Graph.{Graph}
use Rattle.machine_core.specs.declared.run.Run.{Run}
use Rattle.machine_core.specs.Costs.{entry_total}
use Rattle.machine_core.specs.CostLaws.{add_costs-entry, add_costs-length, total_of-entry, total_of-length, zeros-length, zeros-entry}
use Rattle.machine_core.specs.EdgeLaws.{formed_run}
use Rattle.machine_core.specs.Runs.{run_total}
use Rattle.machine_core.specs.Walks.{LeadsAlong}
use Rattle.machine_core.specs.WalkLaws.{along_size}
use Rattle.farkas_check.specs.declared.system.System.{System}
use Rattle.farkas_check.specs.Systems.{Constraint, constraint_of, constraint_value, Meets, Joined, Solves, rows_of}
use Rattle.farkas_check.specs.RowLaws.{meets_row}
use Rattle.search_hits.specs.UnknownLaws.{terms-below}
use Rattle.search_hits.specs.Hits.{IsHit, HaveRegisters, AreRunsOf, runs_total, characters}
use Rattle.parikh_flow.specs.Counts.{occurrences, total_count, size_of, edge_counts, end_counts}
use Rattle.parikh_flow.specs.Flows.{IsFlow}
use Rattle.parikh_flow.specs.Rows.{unknowns_after, inequality, register_row, not_negative_row, family_rows, family_terms, machine_terms, reach_rows, edge_cost, end_cost, IsSystemOf}
use Rattle.parikh_flow.specs.Solutions.{HaveFlowsAt, HaveJoinedCounts}
use Rattle.parikh_flow.proofs.CountLemmas.{front-length, total-fall}
use Rattle.parikh_flow.proofs.FlowLemmas.{tally-first, tally-rest, edge-tally, end-tally, total-none}
use Rattle.parikh_flow.proofs.RunLemmas.{goes-run}
use Rattle.parikh_flow.proofs.WeightLemmas.{weighted, weighted-fall, weighted-none, weighted-one, weighted-zero, machine_value}
use Rattle.parikh_flow.proofs.SolutionLemmas.{all-first, all-second, all-unmap, all-range, run-rows-met, family-counts}

-- the parts of the rows that speak of runs
module _ (machines : List Graph) (integers registers : ℕ) (rows : List Row) (reach : Option ℕ) (s : System) (x : ℕ → ℤ) (is : IsSystemOf machines integers registers rows reach s) (met : All (Meets x) (rows_of s)) where
  abbrev registers-part : List Constraint
  registers-part = map (register_row integers (integers + registers) machines) (range_with_len 0 registers)

  abbrev low-part : List Constraint
  low-part = map not_negative_row (range_with_len integers (unknowns_after (integers + registers) machines - integers))

  abbrev family-part : List Constraint
  family-part = family_rows (integers + registers) machines

  abbrev reach-part : List Constraint
  reach-part = reach_rows (integers + registers) machines reach

  all-parts : All (Meets x) (registers-part ++ low-part ++ family-part ++ reach-part)
  all-parts = run-rows-met machines integers registers rows reach s x is met

  three-parts : All (Meets x) (registers-part ++ low-part ++ family-part)
  three-parts = all-first (Meets x) (registers-part ++ low-part ++ family-part) reach-part all-parts

  two-parts : All (Meets x) (registers-part ++ low-part)
  two-parts = all-first (Meets x) (registers-part ++ low-part) family-part three-parts

  pub register-met : (k : ℕ) → k < registers → Meets x (register_row integers (integers + registers) machines k)
  register-met k lt =
      let z : 0 + k ≡ k = omega arith in
      subst (λ n. Meets x (register_row integers (integers + registers) machines n)) z
      (all-range (λ n. Meets x (register_row integers (integers + registers) machines n)) 0 registers
      (all-unmap (Meets x) (register_row integers (integers + registers) machines) (range_with_len 0 registers)
      (all-first (Meets x) registers-part low-part two-parts)) k lt)

  pub low-met : (u : ℕ) → integers ≤ u → u < unknowns_after (integers + registers) machines → pos 0 ≤ℤ x u
  low-met u le lt =
      let n = unknowns_after (integers + registers) machines - integers in
      let z : integers + (u - integers) ≡ u = omega arith in
      let row = subst (λ n. Meets x (not_negative_row n)) z
      (all-range (λ n. Meets x (not_negative_row n)) integers (unknowns_after (integers + registers) machines - integers)
      (all-unmap (Meets x) not_negative_row (range_with_len integers (unknowns_after (integers + registers) machines - integers))
      (all-second (Meets x) registers-part low-part two-parts)) (u - integers) (omega arith)) in
      let h = row.at_most in
      omega (arith, ints)

  pub solution-counts : All (Joined x) s.nets → HaveJoinedCounts x (integers + registers) machines
  solution-counts joins = family-counts x machines (integers + registers) (λ u a b. low-met u (omega arith) b)
      (all-second (Meets x) (registers-part ++ low-part) family-part three-parts)
      (subst (All (Joined x)) is.nets joins)

  pub reach-met : All (Meets x) reach-part
  reach-met = all-second (Meets x) (registers-part ++ low-part ++ family-part) reach-part all-parts

  pub given-met : All (λ r. Meets x (constraint_of r)) rows
  given-met = all-first (λ r. Meets x (constraint_of r)) rows is.more (subst (All (λ r. Meets x (constraint_of r))) is.listed (all-unmap (Meets x) constraint_of s.rows met))

-- what a walk costs at a register, by the counts of its edges
leads-cost : (k : ℕ) (edges : List Edge) (s : ℕ) (ps us word : List ℕ) (costs : List (List ℕ)) (t n : ℕ) (f : List ℕ) → LeadsAlong edges s ps us word costs t
    → ((p : ℕ) → slice_index f p ≡ occurrences p ps) → pos (entry_total k costs n) ≡ weighted (edge_cost k) edges f +ℤ pos n
leads-cost k edges s [] [] [] [] t n f l tally = let z = weighted-none (edge_cost k) edges f tally in omega (arith, ints, z)
leads-cost k edges s [] [] [] (x ∷ costs) t n f l tally = absurd l
leads-cost k edges s [] [] (x ∷ word) costs t n f l tally = absurd l
leads-cost k edges s [] (x ∷ us) word costs t n f l tally = absurd l
leads-cost k edges s (q ∷ ps) [] word costs t n f l tally = absurd l
leads-cost k edges s (q ∷ ps) (x ∷ us) [] costs t n f l tally = absurd l
leads-cost k edges s (q ∷ ps) (x ∷ us) (y ∷ word) [] t n f l tally = absurd l
leads-cost k edges s (q ∷ ps) (x ∷ us) (y ∷ word) (z ∷ costs) t n f l tally =
    let rest = leads-cost k edges x ps us word costs t n (slice_set f q (occurrences q ps)) l.4 (tally-rest f q ps tally) in
    let w = weighted-fall (edge_cost k) edges f q (occurrences q ps) l.0 l.1 (tally-first f q ps tally) in
    let own : slice_index l.0.cost k ≡ slice_index z k = ap (λ c. slice_index c k) l.3.1 in
    omega (arith, ints, rest, w, own)

-- how many places are counted
places-total : (ps f : List ℕ) → ((p : ℕ) → slice_index f p ≡ occurrences p ps) → total_count f ≡ length ps
places-total [] f tally = total-none f tally
places-total (q ∷ ps) f tally =
    let rest = places-total ps (slice_set f q (occurrences q ps)) (tally-rest f q ps tally) in
    let w = total-fall f q (occurrences q ps) (tally-first f q ps tally) in
    omega arith

total-parts : (f : List ℕ) (n : ℕ) → total_count f ≡ total_count (take n f) + total_count (drop n f)
total-parts [] zero = refl
total-parts [] (suc n) = refl
total-parts (x ∷ f) zero = omega arith
total-parts (x ∷ f) (suc n) = let r = total-parts f n in omega arith

module _ (m : Graph) (run : Run ℕ) (f : List ℕ) (flow : IsFlow m run f) where
  formed : All (λ s. s < m.states) run.states × All (λ k. length k ≡ m.registers) run.costs × (length run.last ≡ m.registers)
  formed = formed_run m.states m.registers m.edges m.ends m.formed 0 m.started run (goes-run m run flow.places flow.last flow.goes)

  pub flow-width : length (run_total run) ≡ m.registers
  flow-width = total_of-length run.costs run.last m.registers formed.1 formed.2

  pub flow-cost : (k : ℕ) → pos (slice_index (run_total run) k) ≡ weighted (edge_cost k) m.edges (edge_counts m f) +ℤ weighted (end_cost k) m.ends (end_counts m f)
  flow-cost k =
      let entry = total_of-entry run.costs run.last k (λ i d lt. formed.1 i d lt ∙ sym formed.2) in
      let walk = leads-cost k m.edges 0 flow.places flow.goes.along.after run.word run.costs flow.goes.along.stop (slice_index run.last k) (edge_counts m f) flow.goes.along.leads (edge-tally m run f flow) in
      let tally = end-tally m run f flow in
      let e = weighted-fall (end_cost k) m.ends (end_counts m f) flow.last 0 flow.goes.ending flow.goes.is_end (tally-first (end_counts m f) flow.last [] tally) in
      let z = weighted-none (end_cost k) m.ends (slice_set (end_counts m f) flow.last 0) (tally-rest (end_counts m f) flow.last [] tally) in
      let own : slice_index flow.goes.ending.cost k ≡ slice_index run.last k = ap (λ c. slice_index c k) flow.goes.cost in
      ap pos entry ∙ omega (arith, ints, walk, e, z, own)

  pub flow-length : total_count (edge_counts m f) ≡ length run.word
  flow-length = places-total flow.places (edge_counts m f) (edge-tally m run f flow) ∙ sym (along_size m.edges flow.places run flow.goes.along)

  -- one for each character, and one for the end
  pub flow-total : total_count f ≡ suc (length run.word)
  flow-total =
      let walk = flow-length in
      let tally = end-tally m run f flow in
      let e = total-fall (end_counts m f) flow.last 0 (tally-first (end_counts m f) flow.last [] tally) in
      let z = total-none (slice_set (end_counts m f) flow.last 0) (tally-rest (end_counts m f) flow.last [] tally) in
      let parts = total-parts f (length m.edges) in
      omega arith

-- all machines
pub runs-width : (x : ℕ → ℤ) (registers : ℕ) (ms : List Graph) (rs : List (Run ℕ)) (base : ℕ) → HaveRegisters registers ms → HaveFlowsAt x base ms rs → length (runs_total registers rs) ≡ registers
runs-width x registers [] [] base h flows = zeros-length registers
runs-width x registers [] (r ∷ rs) base h flows = absurd flows
runs-width x registers (m ∷ ms) [] base h flows = absurd flows
runs-width x registers (m ∷ ms) (r ∷ rs) base h flows =
    add_costs-length (run_total r) (runs_total registers rs) registers
    (flow-width m r flows.0.0 flows.0.2 ∙ All-head (λ g. g.registers ≡ registers) m ms h)
    (runs-width x registers ms rs (base + size_of m) (All-tail (λ g. g.registers ≡ registers) m ms h) flows.1)

pub runs-cost : (x : ℕ → ℤ) (registers k : ℕ) (ms : List Graph) (rs : List (Run ℕ)) (base : ℕ) → HaveRegisters registers ms → HaveFlowsAt x base ms rs
    → terms_value x (family_terms (edge_cost k) (end_cost k) base ms) ≡ pos (slice_index (runs_total registers rs) k)
runs-cost x registers k [] [] base h flows = ap pos (sym (zeros-entry registers k))
runs-cost x registers k [] (r ∷ rs) base h flows = absurd flows
runs-cost x registers k (m ∷ ms) [] base h flows = absurd flows
runs-cost x registers k (m ∷ ms) (r ∷ rs) base h flows =
    let rest = runs-cost x registers k ms rs (base + size_of m) (All-tail (λ g. g.registers ≡ registers) m ms h) flows.1 in
    let v = machine_value x base m flows.0.0 flows.0.1 (edge_cost k) (end_cost k) in
    let w = flow-cost m r flows.0.0 flows.0.2 k in
    let same = flow-width m r flows.0.0 flows.0.2 ∙ All-head (λ g. g.registers ≡ registers) m ms h ∙ sym (runs-width x registers ms rs (base + size_of m) (All-tail (λ g. g.registers ≡ registers) m ms h) flows.1) in
    let e = add_costs-entry (run_total r) (runs_total registers rs) k same in
    terms_value-append x (machine_terms (edge_cost k) (end_cost k) base m) (family_terms (edge_cost k) (end_cost k) (base + size_of m) ms)
    ∙ omega (arith, ints, rest, v, w, e)

pub runs-of : (x : ℕ → ℤ) (ms : List Graph) (rs : List (Run ℕ)) (base : ℕ) → HaveFlowsAt x base ms rs → AreRunsOf ms rs
runs-of x [] [] base flows = tt
runs-of x [] (r ∷ rs) base flows = absurd flows
runs-of x (m ∷ ms) [] base flows = absurd flows
runs-of x (m ∷ ms) (r ∷ rs) base flows = (goes-run m r flows.0.2.places flows.0.2.last flows.0.2.goes, runs-of x ms rs (base + size_of m) flows.1)

pub runs-length : (x : ℕ → ℤ) (ms : List Graph) (rs : List (Run ℕ)) (base : ℕ) → HaveFlowsAt x base ms rs
    → terms_value x (family_terms (λ _. pos 1) (λ _. pos 0) base ms) ≡ pos (characters rs)
runs-length x [] [] base flows = refl
runs-length x [] (r ∷ rs) base flows = absurd flows
runs-length x (m ∷ ms) [] base flows = absurd flows
runs-length x (m ∷ ms) (r ∷ rs) base flows =
    let rest = runs-length x ms rs (base + size_of m) flows.1 in
    let f = flows.0.0 in
    let v = machine_value x base m flows.0.0 flows.0.1 (λ _. pos 1) (λ _. pos 0) in
    let one = weighted-one m.edges (edge_counts m flows.0.0) (front-length flows.0.0 (length m.edges) (length m.ends) flows.0.1.size) in
    let none = weighted-zero m.ends (end_counts m flows.0.0) in
    let l = flow-length m r flows.0.0 flows.0.2 in
    terms_value-append x (machine_terms (λ _. pos 1) (λ _. pos 0) base m) (family_terms (λ _. pos 1) (λ _. pos 0) (base + size_of m) ms)
    ∙ omega (arith, ints, rest, v, one, none, l)

-- values that agree on the unknowns of a row
terms-agree : (x y : ℕ → ℤ) (n : ℕ) (ts : List (ℕ × ℤ)) → All (λ t. t.0 < n) ts → ((u : ℕ) → u < n → x u ≡ y u) → terms_value x ts ≡ terms_value y ts
terms-agree x y n [] names h = refl
terms-agree x y n (t ∷ ts) names h =
    ap (λ v. t.1 *ℤ v +ℤ terms_value x ts) (h t.0 (All-head (λ t. t.0 < n) t ts names))
    ∙ ap (λ v. t.1 *ℤ y t.0 +ℤ v) (terms-agree x y n ts (All-tail (λ t. t.0 < n) t ts names) h)

pub meets-agree : (x y : ℕ → ℤ) (n : ℕ) (r : Row) → All (λ t. t.0 < n) r.form.coefficients → ((u : ℕ) → u < n → x u ≡ y u) → Meets x (constraint_of r) → Meets y (constraint_of r)
meets-agree x y n r names h m =
    let v : constraint_value y (constraint_of r) ≡ constraint_value x (constraint_of r) = ap (λ z. z +ℤ r.form.constant) (sym (terms-agree x y n r.form.coefficients names h)) in
    record { at_most = subst (λ z. z ≤ℤ pos 0) (sym v) m.at_most; equal = λ e. v ∙ m.equal e }

-- rows that are met as constraints, and as rows
pub rows-agree : (x y : ℕ → ℤ) (n : ℕ) (rows : List Row) → NameUnknowns n rows → ((u : ℕ) → u < n → x u ≡ y u) → All (λ r. Meets x (constraint_of r)) rows → AllByRecursion (MeetsRow y) rows
rows-agree x y n [] names h m = tt
rows-agree x y n (r ∷ rs) names h m = (
  (meets_row y r).1 (meets-agree x y n r (terms-below 0 n r.form.coefficients (names zero r refl)) h (All-head (λ r. Meets x (constraint_of r)) r rs m)),
  rows-agree x y n rs (λ i. names (suc i)) h (All-tail (λ r. Meets x (constraint_of r)) r rs m),
)

pub constraints-agree : (x y : ℕ → ℤ) (n : ℕ) (rows : List Row) → NameUnknowns n rows → ((u : ℕ) → u < n → x u ≡ y u) → AllByRecursion (MeetsRow x) rows → All (λ r. Meets y (constraint_of r)) rows
constraints-agree x y n [] names h m = All-nil (λ r. Meets y (constraint_of r))
constraints-agree x y n (r ∷ rs) names h m =
    All-cons (λ r. Meets y (constraint_of r)) r rs
    (meets-agree x y n r (terms-below 0 n r.form.coefficients (names zero r refl)) h ((meets_row x r).0 m.0))
    (constraints-agree x y n rs (λ i. names (suc i)) h m.1)

pub get-first : (xs ys : List ℤ) (u : ℕ) → u < length xs → get_or (xs ++ ys) u (pos 0) ≡ get_or xs u (pos 0)
get-first [] ys u h = absurd (omega arith)
get-first (x ∷ xs) ys zero h = refl
get-first (x ∷ xs) ys (suc u) h = get-first xs ys u (omega arith)

pub get-second : (xs ys : List ℤ) (n k : ℕ) → length xs ≡ n → get_or (xs ++ ys) (n + k) (pos 0) ≡ get_or ys k (pos 0)
get-second [] ys n k e = ap (λ i. get_or ys i (pos 0)) (let z : n + k ≡ k = omega arith in z)
get-second (x ∷ xs) ys n k e = ap (λ i. get_or (x ∷ xs ++ ys) i (pos 0)) (let z : n + k ≡ suc (length xs + k) = omega arith in z) ∙ get-second xs ys (length xs) k refl

pub get-pos : (xs : List ℕ) (k : ℕ) → get_or (map pos xs) k (pos 0) ≡ pos (slice_index xs k)
get-pos [] zero = refl
get-pos [] (suc k) = refl
get-pos (x ∷ xs) zero = refl
get-pos (x ∷ xs) (suc k) = get-pos xs k

get-range : (x : ℕ → ℤ) (a n k : ℕ) → k < n → get_or (map x (range_with_len a n)) k (pos 0) ≡ x (a + k)
get-range x a zero k h = absurd (omega arith)
get-range x a (suc n) zero h = ap x (let z : a ≡ a + 0 = omega arith in z)
get-range x a (suc n) (suc k) h = get-range x (a + 1) n k (omega arith) ∙ ap x (let z : a + 1 + k ≡ a + suc k = omega arith in z)

range-length : (x : ℕ → ℤ) (a n : ℕ) → length (map x (range_with_len a n)) ≡ n
range-length x a zero = refl
range-length x a (suc n) = ap suc (range-length x (a + 1) n)

-- the values of a hit, once they agree with a point on the numbers and the totals
pub hit-agrees : (x : ℕ → ℤ) (n registers : ℕ) (totals : List ℕ) → ((k : ℕ) → k < registers → x (n + k) ≡ pos (slice_index totals k))
    → (u : ℕ) → u < n + registers → x u ≡ unknowns_of (map x (range_with_len 0 n)) totals u
hit-agrees x n registers totals h u lt = by_less u n
    (λ low. let z : 0 + u ≡ u = omega arith in let size = range-length x 0 n in
    sym (get-first (map x (range_with_len 0 n)) (map pos totals) u (omega arith) ∙ get-range x 0 n u low ∙ ap x z))
    (λ high. let z : n + (u - n) ≡ u = omega arith in
    sym (ap x z) ∙ h (u - n) (omega arith) ∙ sym (get-pos totals (u - n)) ∙ sym (get-second (map x (range_with_len 0 n)) (map pos totals) n (u - n) (range-length x 0 n))
    ∙ ap (λ i. get_or (map x (range_with_len 0 n) ++ map pos totals) i (pos 0)) z)
  where
    by_less : {P : Type 0} (m n : ℕ) → (m < n → P) → (n ≤ m → P) → P
    by_less m zero f g = g (omega arith)
    by_less zero (suc n) f g = f (omega arith)
    by_less (suc m) (suc n) f g = by_less m n (λ lt. f (omega arith)) (λ le. g (omega arith))

reach-most : (x : ℕ → ℤ) (base : ℕ) (machines : List Graph) (runs : List (Run ℕ)) (reach : Option ℕ) → HaveFlowsAt x base machines runs → All (Meets x) (reach_rows base machines reach)
    → IfSome reach (λ most. characters runs ≤ most)
reach-most x base machines runs None flows met = tt
reach-most x base machines runs (Some most) flows met =
    let row = All-head (Meets x) (inequality (family_terms (λ _. pos 1) (λ _. pos 0) base machines) (neg_ℤ (pos most))) [] met in
    let v = runs-length x machines runs base flows in
    let h = row.at_most in
    omega (arith, ints)

pub solution-hit : (machines : List Graph) (integers registers : ℕ) (rows : List Row) (reach : Option ℕ) (s : System) (x : ℕ → ℤ) (runs : List (Run ℕ))
    → IsSystemOf machines integers registers rows reach s → NameUnknowns (integers + registers) rows → HaveRegisters registers machines → Solves x (rows_of s) s.nets
    → HaveFlowsAt x (integers + registers) machines runs
    → IsHit machines registers integers rows runs (map x (range_with_len 0 integers)) × IfSome reach (λ most. characters runs ≤ most)
solution-hit machines integers registers rows reach s x runs is names same solves flows =
    let base = integers + registers in
    let totals = runs_total registers runs in (
      record {
        each = runs-of x machines runs (integers + registers) flows;
        meets = record {
          count = range-length x 0 integers;
          each = rows-agree x (unknowns_of (map x (range_with_len 0 integers)) (runs_total registers runs)) (integers + registers) rows names
              (hit-agrees x integers registers (runs_total registers runs) total-at)
              (given-met machines integers registers rows reach s x is solves.meets);
        };
      },
      reach-most x (integers + registers) machines runs reach flows (reach-met machines integers registers rows reach s x is solves.meets),
    )
  where
    total-at : (k : ℕ) → k < registers → x (integers + k) ≡ pos (slice_index (runs_total registers runs) k)
    total-at k lt =
        let row = register-met machines integers registers rows reach s x is solves.meets k lt in
        let v = runs-cost x registers k machines runs (integers + registers) same flows in
        let e = row.equal refl in
        omega (arith, ints, v, e)
