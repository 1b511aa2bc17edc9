-- A hit and counts of its runs are a solution.
use Rattle.std.proofs.Common.{◌≡◌, ℕ, zero, suc, ◌+◌, ◌-◌, ◌<◌, ◌≤◌, ℤ, pos, neg_ℤ, ◌+ℤ◌, ◌-ℤ◌, ◌≤ℤ◌, ◌<ℤ◌, List, [], ◌∷◌, ◌++◌, length, map, All, Contains, Option, Some, None, IfSome, slice_get, get_or, slice_index, nat_eq, Bool, true, false, cond, refl, ap, sym, ◌∙◌, subst, arith}
use Rattle.std.proofs.lemmas.Option.{slice_get_within, slice_get-get_or}
use Rattle.std.specs.List.{range_with_len}
use Rattle.std.proofs.lemmas.Int.{ints}
use Rattle.std.proofs.lemmas.List.Elements.{All-nil, All-cons, All-head, All-tail, All-append, All-map}
use Rattle.sv_linear.specs.Terms.{terms_value}
use Rattle.sv_linear.specs.Rows.{NameUnknowns, unknowns_of}
use Rattle.sv_linear.specs.declared.row.Row.{Row}
use Rattle.machine_core.specs.declared.edge.Edge.{Edge}
use Rattle.machine_core.specs.declared.graph.Graph.{Graph}
use Rattle.machine_core.specs.declared.run.Run.{Run}
use Rattle.sv_list.specs.Lists.{slice_get-contains}
use Rattle.farkas_check.specs.declared.system.System.{System}
use Rattle.farkas_check.specs.Cuts.{values_of}
use Rattle.farkas_check.specs.Systems.{Constraint, constraint_of, constraint_value, Meets, Reached, reached_start, reached_edge, Joined, Solves, rows_of}
use Rattle.search_hits.specs.Hits.{IsHit, HaveRegisters, AreRunsOf, runs_total, characters}
use Rattle.parikh_flow.specs.Counts.{counts_at, to_of, size_of, edge_counts, end_counts}
use Rattle.parikh_flow.specs.Nets.{net_edge, net_edges, net_of, nets_of, counted, AreJoined}
use Rattle.parikh_flow.specs.Rows.{unknowns_after, inequality, register_row, not_negative_row, family_rows, family_terms, machine_terms, reach_rows, run_rows, equation, end_row, state_row, machine_rows, edge_balance, end_balance, IsSameRow, AreSameRows, IsSystemOf}
use Rattle.parikh_flow.specs.Solutions.{AreCountsAt, HaveFlowsAt, AreRunValues}
use Rattle.parikh_flow.specs.Balance.{one_at, AreBalanced}
use Rattle.sv_linear.specs.Points.{unit}
use Rattle.machine_core.specs.Edges.{from_of, at_of}
use Rattle.farkas_check.specs.declared.net.NetEdge.{NetEdge}
use Rattle.parikh_flow.proofs.FlowLemmas.{run-flow, flow-balanced, flow-joined, index-first, index-second}
use Rattle.parikh_flow.proofs.RunLemmas.{net-in, net-out}
use Rattle.parikh_flow.proofs.ValueLemmas.{same-value}
use Rattle.parikh_flow.proofs.WeightLemmas.{weighted, weighted-balance, weighted-ends, weighted-one, machine_value, end_value}
use Rattle.parikh_flow.proofs.CountLemmas.{rest-length}
use Rattle.parikh_flow.proofs.HitLemmas.{constraints-agree, runs-cost, runs-length, runs-width, get-first, get-second, get-pos}

pub range-all : (P : ℕ → Type 0) (a n : ℕ) → ((k : ℕ) → k < n → P (a + k)) → All P (range_with_len a n)
range-all P a zero h = All-nil P
range-all P a (suc n) h =
    All-cons P a (range_with_len (a + 1) n) (subst P (let z : a + 0 ≡ a = omega arith in z) (h zero (omega arith)))
    (range-all P (a + 1) n (λ k lt. subst P (let z : a + suc k ≡ a + 1 + k = omega arith in z) (h (suc k) (omega arith))))

row-same : (x : ℕ → ℤ) (r : Row) (c : Constraint) → IsSameRow r c → Meets x c → Meets x (constraint_of r)
row-same x r c s m =
    let v = same-value x r.form.coefficients c.terms s.terms in
    let k = s.constant in
    let e : constraint_value x (constraint_of r) ≡ constraint_value x c = omega (arith, ints) in
    record { at_most = omega (arith, ints, e, m.at_most); equal = λ t. e ∙ m.equal (sym s.equal ∙ t) }

rows-same : (x : ℕ → ℤ) (rs : List Row) (cs : List Constraint) → AreSameRows rs cs → All (Meets x) cs → All (λ r. Meets x (constraint_of r)) rs
rows-same x [] [] z h = All-nil (λ r. Meets x (constraint_of r))
rows-same x [] (c ∷ cs) z h = absurd z
rows-same x (r ∷ rs) [] z h = absurd z
rows-same x (r ∷ rs) (c ∷ cs) z h =
    All-cons (λ r. Meets x (constraint_of r)) r rs (row-same x r c z.0 (All-head (Meets x) c cs h)) (rows-same x rs cs z.1 (All-tail (Meets x) c cs h))

equation-met : (x : ℕ → ℤ) (ts : List (ℕ × ℤ)) (k : ℤ) → terms_value x ts +ℤ k ≡ pos 0 → Meets x (equation ts k)
equation-met x ts k e = record { at_most = omega (arith, ints, e); equal = λ _. e }

-- counts that balance meet the rows of their machine
machine-met : (x : ℕ → ℤ) (base : ℕ) (m : Graph) (f : List ℕ) → AreCountsAt x base m f → AreBalanced m f → All (Meets x) (machine_rows base m)
machine-met x base m f counts balanced =
    All-cons (Meets x) (end_row base m) (map (state_row base m) (range_with_len 0 m.states)) end-met
    (All-map (Meets x) (state_row base m) (range_with_len 0 m.states) (range-all (λ s. Meets x (state_row base m s)) 0 m.states (λ s lt. state-met (0 + s))))
  where
    end-met : Meets x (end_row base m)
    end-met =
        let v = end_value x base m f counts (λ _. pos 1) in
        let w = weighted-one m.ends (end_counts m f) (rest-length f (length m.edges) (length m.ends) counts.size) in
        let one = balanced.one_end in
        record { at_most = omega (arith, ints, v, w); equal = λ _. omega (arith, ints, v, w) }

    with_start : (s : ℕ) (b : Bool) → nat_eq 0 s ≡ b → pos (one_at s 0) ≡ unit s 0
    with_start s true t = ap (λ b. pos (cond b 1 0)) t ∙ sym (ap (λ b. cond b (pos 1) (pos 0)) t)
    with_start s false t = ap (λ b. pos (cond b 1 0)) t ∙ sym (ap (λ b. cond b (pos 1) (pos 0)) t)

    state-met : (s : ℕ) → Meets x (state_row base m s)
    state-met s =
        let v = machine_value x base m f counts (edge_balance s) (end_balance s) in
        let e = weighted-balance s m.edges (edge_counts m f) in
        let n = weighted-ends s m.ends (end_counts m f) in
        let u = with_start s (nat_eq 0 s) refl in
        let b = balanced.at_each s in
        let z : pos (counts_at to_of s m.edges (edge_counts m f)) -ℤ pos (counts_at from_of s m.edges (edge_counts m f)) +ℤ neg_ℤ (pos (counts_at at_of s m.ends (end_counts m f))) +ℤ pos (one_at s 0) ≡ pos 0 = omega (arith, ints) in
        let whole = v ∙ ap (λ a. a +ℤ weighted (end_balance s) m.ends (end_counts m f)) e
        ∙ ap (λ b. (pos (counts_at to_of s m.edges (edge_counts m f)) -ℤ pos (counts_at from_of s m.edges (edge_counts m f))) +ℤ b) n in
        equation-met x (machine_terms (edge_balance s) (end_balance s) base m) (unit s 0)
        (ap (λ y. y +ℤ unit s 0) whole ∙ ap (λ y. pos (counts_at to_of s m.edges (edge_counts m f)) -ℤ pos (counts_at from_of s m.edges (edge_counts m f)) +ℤ neg_ℤ (pos (counts_at at_of s m.ends (end_counts m f))) +ℤ y) (sym u) ∙ z)

-- a net that is joined by the counts is joined by the values
module _ (x : ℕ → ℤ) (base : ℕ) (m : Graph) (f : List ℕ) (counts : AreCountsAt x base m f) (joined : AreJoined m f) where
  back-value : (p : ℕ) (e : Edge) → slice_get m.edges p ≡ Some e → counted f (0 + p) ≡ x (base + p)
  back-value p e is = let b = slice_get_within m.edges p e is in sym (counts.values p (omega arith) ∙ ap (λ n. pos (slice_index f n)) (let z : p ≡ 0 + p = omega arith in z))

  back-reached : (s : ℕ) → Reached (counted f) (net_of 0 m) s → Reached x (net_of base m) s
  back-reached s reached_start = reached_start
  back-reached s (reached_edge d c used r) =
      let e = net-out 0 m.edges d c in
      let before = back-reached d.«from» r in
      let used' = subst (λ z. pos 0 <ℤ z) (back-value e.0 e.1 e.2) (subst (λ (y : NetEdge). pos 0 <ℤ counted f y.unknown) e.3 used) in
      subst (λ (y : NetEdge). Reached x (net_of base m) y.to) (sym e.3)
      (reached_edge (net_edge (base + e.0) e.1) (net-in base m.edges e.0 e.1 e.2) used' (subst (λ (y : NetEdge). Reached x (net_of base m) y.«from») e.3 before))

  back-edge : (d : NetEdge) → Contains (net_edges base m.edges) d → pos 0 <ℤ x d.unknown → Reached x (net_of base m) d.«from»
  back-edge d c used =
      let e = net-out base m.edges d c in
      let own = net-in 0 m.edges e.0 e.1 e.2 in
      let used' = subst (λ z. pos 0 <ℤ z) (sym (back-value e.0 e.1 e.2)) (subst (λ (y : NetEdge). pos 0 <ℤ x y.unknown) e.3 used) in
      let r = joined.reached own.0 (net_edge (0 + e.0) e.1) own.1 in
      let r' = subst (λ (y : NetEdge). pos 0 <ℤ counted f y.unknown → Reached (counted f) (net_of 0 m) y.«from») own.2 r in
      subst (λ (y : NetEdge). Reached x (net_of base m) y.«from») (sym e.3) (back-reached e.1.from (r' used'))

  back-low : (d : NetEdge) → Contains (net_edges base m.edges) d → pos 0 ≤ℤ x d.unknown
  back-low d c =
      let e = net-out base m.edges d c in
      let v = back-value e.0 e.1 e.2 in
      let low : pos 0 ≤ℤ counted f (0 + e.0) = omega (arith, ints) in
      subst (λ (y : NetEdge). pos 0 ≤ℤ x y.unknown) (sym e.3) (subst (λ z. pos 0 ≤ℤ z) v low)

  pub values-joined : Joined x (net_of base m)
  values-joined = record {
    not_negative = λ k d lt. back-low (get_or (net_edges base m.edges) k d) (slice_get-contains (net_edges base m.edges) k (get_or (net_edges base m.edges) k d) (slice_get-get_or (net_edges base m.edges) k d lt));
    reached = λ k d lt used. back-edge (get_or (net_edges base m.edges) k d) (slice_get-contains (net_edges base m.edges) k (get_or (net_edges base m.edges) k d) (slice_get-get_or (net_edges base m.edges) k d lt)) used;
  }

-- counts of all runs, one machine's after another's
abbrev pub counts_of : (ms : List Graph) (rs : List (Run ℕ)) → AreRunsOf ms rs → List ℕ
counts_of [] [] runs = []
counts_of [] (r ∷ rs) runs = []
counts_of (m ∷ ms) [] runs = []
counts_of (m ∷ ms) (r ∷ rs) runs = (run-flow m r runs.0).0 ++ counts_of ms rs runs.1

flows-at : (x : ℕ → ℤ) (ms : List Graph) (rs : List (Run ℕ)) (runs : AreRunsOf ms rs) (base : ℕ) → ((k : ℕ) → x (base + k) ≡ pos (slice_index (counts_of ms rs runs) k)) → HaveFlowsAt x base ms rs
flows-at x [] [] runs base h = tt
flows-at x [] (r ∷ rs) runs base h = absurd runs
flows-at x (m ∷ ms) [] runs base h = absurd runs
flows-at x (m ∷ ms) (r ∷ rs) runs base h =
    let flow = run-flow m r runs.0 in
    let size = flow.1.tally.size in (
      (flow.0, record { size = size; values = λ k lt. h k ∙ ap pos (index-first flow.0 (counts_of ms rs runs.1) k (omega arith)) }, flow.1),
      flows-at x ms rs runs.1 (base + size_of m) (λ k.
          ap x (let z : base + size_of m + k ≡ base + (length flow.0 + k) = omega arith in z) ∙ h (length flow.0 + k) ∙ ap pos (index-second flow.0 (counts_of ms rs runs.1) k)),
    )

family-met : (x : ℕ → ℤ) (ms : List Graph) (rs : List (Run ℕ)) (base : ℕ) → HaveFlowsAt x base ms rs → All (Meets x) (family_rows base ms) × All (Joined x) (nets_of base ms)
family-met x [] [] base flows = (All-nil (Meets x), All-nil (Joined x))
family-met x [] (r ∷ rs) base flows = absurd flows
family-met x (m ∷ ms) [] base flows = absurd flows
family-met x (m ∷ ms) (r ∷ rs) base flows =
    let rest = family-met x ms rs (base + size_of m) flows.1 in
    let f = flows.0.0 in (
      All-append (Meets x) (machine_rows base m) (family_rows (base + size_of m) ms) (machine-met x base m flows.0.0 flows.0.1 (flow-balanced m r flows.0.0 flows.0.2)) rest.0,
      All-cons (Joined x) (net_of base m) (nets_of (base + size_of m) ms) (values-joined x base m flows.0.0 flows.0.1 (flow-joined m r flows.0.0 flows.0.2)) rest.1,
    )

reach-row : (x : ℕ → ℤ) (base : ℕ) (machines : List Graph) (runs : List (Run ℕ)) (reach : Option ℕ) → HaveFlowsAt x base machines runs → IfSome reach (λ most. characters runs ≤ most)
    → All (Meets x) (reach_rows base machines reach)
reach-row x base machines runs None flows h = All-nil (Meets x)
reach-row x base machines runs (Some most) flows h =
    let v = runs-length x machines runs base flows in
    All-cons (Meets x) (inequality (family_terms (λ _. pos 1) (λ _. pos 0) base machines) (neg_ℤ (pos most))) []
    (record { at_most = omega (arith, ints, v, h); equal = λ e. cc }) (All-nil (Meets x))

-- the values of a hit
module _ (machines : List Graph) (registers : ℕ) (runs : List (Run ℕ)) (integers : List ℤ) (each : AreRunsOf machines runs) (same : HaveRegisters registers machines) where
  abbrev pub totals_at : List ℕ
  totals_at = runs_total registers runs

  abbrev pub point_of : ℕ → ℤ
  point_of = values_of (integers ++ map pos (totals_at ++ counts_of machines runs each))

  pub point-number : (k : ℕ) → k < length integers → point_of k ≡ get_or integers k (pos 0)
  point-number k lt = get-first integers (map pos (totals_at ++ counts_of machines runs each)) k lt

  point-after : (k : ℕ) → point_of (length integers + k) ≡ pos (slice_index (totals_at ++ counts_of machines runs each) k)
  point-after k = get-second integers (map pos (totals_at ++ counts_of machines runs each)) (length integers) k refl ∙ get-pos (totals_at ++ counts_of machines runs each) k

  size-of : (x : ℕ → ℤ) (base : ℕ) → HaveFlowsAt x base machines runs → length totals_at ≡ registers
  size-of x base flows = runs-width x registers machines runs base same flows

  -- the width is told by any values with flows
  any-flows : HaveFlowsAt (λ u. pos (slice_index (counts_of machines runs each) u)) 0 machines runs
  any-flows = flows-at (λ u. pos (slice_index (counts_of machines runs each) u)) machines runs each 0 (λ k. ap (λ n. pos (slice_index (counts_of machines runs each) n)) (let z : 0 + k ≡ k = omega arith in z))

  width : length totals_at ≡ registers
  width = size-of (λ u. pos (slice_index (counts_of machines runs each) u)) 0 any-flows

  pub point-total : (k : ℕ) → k < registers → point_of (length integers + k) ≡ pos (slice_index totals_at k)
  point-total k lt = point-after k ∙ ap pos (index-first totals_at (counts_of machines runs each) k (let w = width in omega arith))

  pub point-flows : HaveFlowsAt point_of (length integers + registers) machines runs
  point-flows = flows-at point_of machines runs each (length integers + registers) (λ k.
      ap point_of (let w = width in let z : length integers + registers + k ≡ length integers + (length totals_at + k) = omega arith in z)
      ∙ point-after (length totals_at + k) ∙ ap pos (index-second totals_at (counts_of machines runs each) k))

  pub point-low : (u : ℕ) → length integers ≤ u → pos 0 ≤ℤ point_of u
  point-low u le =
      let z : length integers + (u - length integers) ≡ u = omega arith in
      subst (λ n. pos 0 ≤ℤ point_of n) z (subst (λ v. pos 0 ≤ℤ v) (sym (point-after (u - length integers))) (let low : pos 0 ≤ℤ pos (slice_index (totals_at ++ counts_of machines runs each) (u - length integers)) = omega (arith, ints) in low))

  pub point-agrees : (u : ℕ) → u < length integers + registers → unknowns_of integers totals_at u ≡ point_of u
  point-agrees u lt = by_less u (length integers)
      (λ low. get-first integers (map pos totals_at) u low ∙ sym (point-number u low))
      (λ high. let z : length integers + (u - length integers) ≡ u = omega arith in
      sym (ap (unknowns_of integers totals_at) z) ∙ get-second integers (map pos totals_at) (length integers) (u - length integers) refl ∙ get-pos totals_at (u - length integers)
      ∙ sym (point-total (u - length integers) (omega arith)) ∙ ap point_of z)
    where
      by_less : {P : Type 0} (m n : ℕ) → (m < n → P) → (n ≤ m → P) → P
      by_less m zero f g = g (omega arith)
      by_less zero (suc n) f g = f (omega arith)
      by_less (suc m) (suc n) f g = by_less m n (λ lt. f (omega arith)) (λ le. g (omega arith))

  register-row : (k : ℕ) → k < registers → Meets point_of (register_row (length integers) (length integers + registers) machines k)
  register-row k lt =
      let v = runs-cost point_of registers k machines runs (length integers + registers) same point-flows in
      let t = point-total k lt in
      record { at_most = omega (arith, ints, v, t); equal = λ _. omega (arith, ints, v, t) }

  low-row : (u : ℕ) → length integers ≤ u → Meets point_of (not_negative_row u)
  low-row u le = let h = point-low u le in record { at_most = omega (arith, ints); equal = λ e. cc }

  pub point-rows : (reach : Option ℕ) → IfSome reach (λ most. characters runs ≤ most) → All (Meets point_of) (run_rows machines (length integers) registers reach)
  point-rows reach h =
      let base = length integers + registers in
      All-append (Meets point_of) _ _
      (All-append (Meets point_of) _ _
      (All-append (Meets point_of) _ _
      (All-map (Meets point_of) (register_row (length integers) (length integers + registers) machines) (range_with_len 0 registers)
      (range-all (λ k. Meets point_of (register_row (length integers) (length integers + registers) machines k)) 0 registers (λ k lt. register-row (0 + k) (omega arith))))
      (All-map (Meets point_of) not_negative_row (range_with_len (length integers) (unknowns_after (length integers + registers) machines - length integers))
      (range-all (λ u. Meets point_of (not_negative_row u)) (length integers) (unknowns_after (length integers + registers) machines - length integers) (λ k lt. low-row (length integers + k) (omega arith)))))
      (family-met point_of machines runs (length integers + registers) point-flows).0)
      (reach-row point_of (length integers + registers) machines runs reach point-flows h)

pub hit-solution : (machines : List Graph) (registers : ℕ) (rows : List Row) (reach : Option ℕ) (s : System) (runs : List (Run ℕ)) (integers : List ℤ)
    → IsSystemOf machines (length integers) registers rows reach s → NameUnknowns (length integers + registers) rows → HaveRegisters registers machines
    → IsHit machines registers (length integers) rows runs integers → IfSome reach (λ most. characters runs ≤ most)
    → (x : ℕ → ℤ) × AreRunValues x machines registers runs integers × Solves x (rows_of s) s.nets
hit-solution machines registers rows reach s runs integers is names same hit short = (
  point_of machines registers runs integers hit.each same,
  record {
    integers = point-number machines registers runs integers hit.each same;
    totals = point-total machines registers runs integers hit.each same;
    flows = point-flows machines registers runs integers hit.each same;
  },
  record {
    meets = All-map (Meets (point_of machines registers runs integers hit.each same)) constraint_of s.rows (rw is.listed
        (All-append (λ r. Meets (point_of machines registers runs integers hit.each same) (constraint_of r)) rows is.more
        (constraints-agree (unknowns_of integers (runs_total registers runs)) (point_of machines registers runs integers hit.each same) (length integers + registers) rows names
        (point-agrees machines registers runs integers hit.each same) hit.meets.each)
        (rows-same (point_of machines registers runs integers hit.each same) is.more (run_rows machines (length integers) registers reach) is.added (point-rows machines registers runs integers hit.each same reach short))));
    joins = rw is.nets (family-met (point_of machines registers runs integers hit.each same) machines runs (length integers + registers) (point-flows machines registers runs integers hit.each same)).1;
  },
)
