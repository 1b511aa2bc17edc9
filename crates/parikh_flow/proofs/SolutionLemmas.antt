-- Solutions of the system of machines and rows are hits with their counts.
use Rattle.std.proofs.Common.{◌≡◌, ℕ, zero, suc, ◌+◌, ◌<◌, ◌≤◌, ℤ, pos, neg_ℤ, ◌+ℤ◌, ◌-ℤ◌, ◌≤ℤ◌, ◌<ℤ◌, List, [], ◌∷◌, ◌++◌, length, map, nat_eq, Bool, true, false, cond, All, Contains, Option, Some, slice_get, get_or, slice_index, refl, ap, sym, ◌∙◌, subst, unsigned_abs, arith}
use Rattle.std.proofs.lemmas.Option.{slice_get_within, slice_get-get_or}
use Rattle.std.specs.List.{range_with_len}
use Rattle.std.proofs.lemmas.Int.{ints}
use Rattle.std.proofs.lemmas.Bool.Decides.{nat_tests}
use Rattle.std.proofs.lemmas.List.Elements.{All-nil, All-cons, All-head, All-tail}
use Rattle.sv_linear.specs.Points.{unit}
use Rattle.sv_linear.specs.declared.row.Row.{Row}
use Rattle.machine_core.specs.declared.edge.Edge.{Edge}
use Rattle.machine_core.specs.declared.graph.Graph.{Graph}
use Rattle.machine_core.specs.Edges.{from_of, at_of}
use Rattle.sv_list.specs.Lists.{slice_get-contains}
use Rattle.farkas_check.specs.declared.net.NetEdge.{NetEdge}
use Rattle.farkas_check.specs.declared.system.System.{System}
use Rattle.farkas_check.specs.Systems.{Constraint, constraint_of, constraint_value, Meets, Reached, reached_start, reached_edge, Joined, rows_of}
use Rattle.parikh_flow.specs.Counts.{counts_at, total_count, to_of, size_of, edge_counts, end_counts}
use Rattle.parikh_flow.specs.Balance.{one_at, AreBalanced}
use Rattle.parikh_flow.specs.Nets.{net_edge, net_edges, net_of, nets_of, counted, AreJoined}
use Rattle.parikh_flow.specs.Rows.{unknowns_after, end_row, state_row, machine_rows, family_rows, run_rows, edge_balance, end_balance, IsSameRow, AreSameRows, IsSystemOf}
use Rattle.parikh_flow.specs.Solutions.{AreCountsAt, HaveJoinedCounts}
use Rattle.parikh_flow.proofs.CountLemmas.{counts_at-none, rest-length}
use Rattle.parikh_flow.proofs.ValueLemmas.{same-value}
use Rattle.parikh_flow.proofs.WeightLemmas.{machine_value, end_value, weighted, weighted-balance, weighted-ends, weighted-one}
use Rattle.parikh_flow.proofs.RunLemmas.{net-in, net-out}
use Rattle.parikh_flow.proofs.FlowLemmas.{by_less}

module _ {X : Type 0} (P : X → Type 0) where
  pub all-first : (xs ys : List X) → All P (xs ++ ys) → All P xs
  all-first [] ys h = All-nil P
  all-first (x ∷ xs) ys h = All-cons P x xs (All-head P x (xs ++ ys) h) (all-first xs ys (All-tail P x (xs ++ ys) h))

  pub all-second : (xs ys : List X) → All P (xs ++ ys) → All P ys
  all-second [] ys h = h
  all-second (x ∷ xs) ys h = all-second xs ys (All-tail P x (xs ++ ys) h)

pub all-unmap : {X Y : Type 0} (P : Y → Type 0) (f : X → Y) (xs : List X) → All P (map f xs) → All (λ x. P (f x)) xs
all-unmap P f [] h = All-nil (λ x. P (f x))
all-unmap P f (x ∷ xs) h = All-cons (λ x. P (f x)) x xs (All-head P (f x) (map f xs) h) (all-unmap P f xs (All-tail P (f x) (map f xs) h))

pub all-range : (P : ℕ → Type 0) (a n : ℕ) → All P (range_with_len a n) → (k : ℕ) → k < n → P (a + k)
all-range P a zero h k lt = absurd (omega arith)
all-range P a (suc n) h zero lt = subst P (omega arith) (All-head P a (range_with_len (a + 1) n) h)
all-range P a (suc n) h (suc k) lt = subst P (omega arith) (all-range P (a + 1) n (All-tail P a (range_with_len (a + 1) n) h) k (omega arith))

-- what a row says, by its terms
same-row : (x : ℕ → ℤ) (r : Row) (c : Constraint) → IsSameRow r c → Meets x (constraint_of r) → Meets x c
same-row x r c s m =
    let v = same-value x r.form.coefficients c.terms s.terms in
    let k = s.constant in
    let e : constraint_value x c ≡ constraint_value x (constraint_of r) = omega (arith, ints) in
    record { at_most = omega (arith, ints, e, m.at_most); equal = λ t. e ∙ m.equal (s.equal ∙ t) }

same-rows : (x : ℕ → ℤ) (rs : List Row) (cs : List Constraint) → AreSameRows rs cs → All (λ r. Meets x (constraint_of r)) rs → All (Meets x) cs
same-rows x [] [] z h = All-nil (Meets x)
same-rows x [] (c ∷ cs) z h = absurd z
same-rows x (r ∷ rs) [] z h = absurd z
same-rows x (r ∷ rs) (c ∷ cs) z h =
    All-cons (Meets x) c cs (same-row x r c z.0 (All-head (λ r. Meets x (constraint_of r)) r rs h)) (same-rows x rs cs z.1 (All-tail (λ r. Meets x (constraint_of r)) r rs h))

-- the rows that speak of the runs, where all rows are met
pub run-rows-met : (machines : List Graph) (integers registers : ℕ) (rows : List Row) (reach : Option ℕ) (s : System) (x : ℕ → ℤ) → IsSystemOf machines integers registers rows reach s
    → All (Meets x) (rows_of s) → All (Meets x) (run_rows machines integers registers reach)
run-rows-met machines integers registers rows reach s x is met =
    let all = all-unmap (Meets x) constraint_of s.rows met in
    let both = subst (All (λ r. Meets x (constraint_of r))) is.listed all in
    same-rows x is.more (run_rows machines integers registers reach) is.added (all-second (λ r. Meets x (constraint_of r)) rows is.more both)

-- counts that meet the rows of a machine balance
module _ (x : ℕ → ℤ) (base : ℕ) (m : Graph) (f : List ℕ) (counts : AreCountsAt x base m f) (met : All (Meets x) (machine_rows base m)) where
  one-end : total_count (end_counts m f) ≡ 1
  one-end =
      let row = All-head (Meets x) (end_row base m) (map (state_row base m) (range_with_len 0 m.states)) met in
      let v = end_value x base m f counts (λ _. pos 1) in
      let w = weighted-one m.ends (end_counts m f) (end-size) in
      let e = row.equal refl in
      omega (arith, ints, v, w, e)
    where
      end-size : length (end_counts m f) ≡ length m.ends
      end-size = rest-length f (length m.edges) (length m.ends) counts.size

  balanced-within : (s : ℕ) → s < m.states → counts_at to_of s m.edges (edge_counts m f) + one_at s 0 ≡ counts_at from_of s m.edges (edge_counts m f) + counts_at at_of s m.ends (end_counts m f)
  balanced-within s lt =
      let rows = All-tail (Meets x) (end_row base m) (map (state_row base m) (range_with_len 0 m.states)) met in
      let zs : 0 + s ≡ s = omega arith in
      let row = subst (λ k. Meets x (state_row base m k)) zs (all-range (λ k. Meets x (state_row base m k)) 0 m.states (all-unmap (Meets x) (state_row base m) (range_with_len 0 m.states) rows) s lt) in
      let v = machine_value x base m f counts (edge_balance s) (end_balance s) in
      let e = weighted-balance s m.edges (edge_counts m f) in
      let n = weighted-ends s m.ends (end_counts m f) in
      let z = row.equal refl in
      by_start (nat_eq 0 s) refl
      (ap (λ y. y +ℤ unit s 0) (sym (v ∙ ap (λ a. a +ℤ weighted (end_balance s) m.ends (end_counts m f)) e
      ∙ ap (λ b. (pos (counts_at to_of s m.edges (edge_counts m f)) -ℤ pos (counts_at from_of s m.edges (edge_counts m f))) +ℤ b) n)) ∙ z)
    where
      by_start : (b : Bool) → nat_eq 0 s ≡ b
          → pos (counts_at to_of s m.edges (edge_counts m f)) -ℤ pos (counts_at from_of s m.edges (edge_counts m f)) +ℤ neg_ℤ (pos (counts_at at_of s m.ends (end_counts m f))) +ℤ unit s 0 ≡ pos 0
          → counts_at to_of s m.edges (edge_counts m f) + one_at s 0 ≡ counts_at from_of s m.edges (edge_counts m f) + counts_at at_of s m.ends (end_counts m f)
      by_start true t h = let u : unit s 0 ≡ pos 1 = ap (λ b. cond b (pos 1) (pos 0)) t in let o : one_at s 0 ≡ 1 = ap (λ b. cond b 1 0) t in omega (arith, ints)
      by_start false t h = let u : unit s 0 ≡ pos 0 = ap (λ b. cond b (pos 1) (pos 0)) t in let o : one_at s 0 ≡ 0 = ap (λ b. cond b 1 0) t in omega (arith, ints)

  balanced-past : (s : ℕ) → m.states ≤ s → counts_at to_of s m.edges (edge_counts m f) + one_at s 0 ≡ counts_at from_of s m.edges (edge_counts m f) + counts_at at_of s m.ends (end_counts m f)
  balanced-past s le =
      let started = m.started in
      let i = counts_at-none to_of s m.edges (edge_counts m f) (λ p e g k. absurd (let h = (m.formed.edge e (slice_get-contains m.edges p e g)).to in omega arith)) in
      let o = counts_at-none from_of s m.edges (edge_counts m f) (λ p e g k. absurd (let h = (m.formed.edge e (slice_get-contains m.edges p e g)).from in omega arith)) in
      let n = counts_at-none at_of s m.ends (end_counts m f) (λ p e g k. absurd (let h = (m.formed.ending e (slice_get-contains m.ends p e g)).at in omega arith)) in
      let t : nat_eq 0 s ≡ false = grind (arith, nat_tests) in
      let z : one_at s 0 ≡ 0 = ap (λ b. cond b 1 0) t in
      omega arith

  pub counts-balanced : AreBalanced m f
  counts-balanced = record {
    size = counts.size;
    one_end = one-end;
    at_each = λ s. by_less s m.states (balanced-within s) (balanced-past s);
  }

-- a net that is joined by the values is joined by the counts
module _ (x : ℕ → ℤ) (base : ℕ) (m : Graph) (f : List ℕ) (counts : AreCountsAt x base m f) (joined : Joined x (net_of base m)) where
  shift-value : (p : ℕ) (e : Edge) → slice_get m.edges p ≡ Some e → x (base + p) ≡ counted f (0 + p)
  shift-value p e is = let b = slice_get_within m.edges p e is in counts.values p (omega arith) ∙ ap (λ n. pos (slice_index f n)) (omega arith)

  shift-reached : (s : ℕ) → Reached x (net_of base m) s → Reached (counted f) (net_of 0 m) s
  shift-reached s reached_start = reached_start
  shift-reached s (reached_edge d c used r) =
      let e = net-out base m.edges d c in
      let before = shift-reached d.«from» r in
      let used' = subst (λ z. pos 0 <ℤ z) (shift-value e.0 e.1 e.2) (subst (λ (y : NetEdge). pos 0 <ℤ x y.unknown) e.3 used) in
      subst (λ (y : NetEdge). Reached (counted f) (net_of 0 m) y.to) (sym e.3)
      (reached_edge (net_edge (0 + e.0) e.1) (net-in 0 m.edges e.0 e.1 e.2) used' (subst (λ (y : NetEdge). Reached (counted f) (net_of 0 m) y.«from») e.3 before))

  shift-edge : (d : NetEdge) → Contains (net_edges 0 m.edges) d → pos 0 <ℤ counted f d.unknown → Reached (counted f) (net_of 0 m) d.«from»
  shift-edge d c used =
      let e = net-out 0 m.edges d c in
      let own = net-in base m.edges e.0 e.1 e.2 in
      let used' = subst (λ z. pos 0 <ℤ z) (sym (shift-value e.0 e.1 e.2)) (subst (λ (y : NetEdge). pos 0 <ℤ counted f y.unknown) e.3 used) in
      let r = joined.reached own.0 (net_edge (base + e.0) e.1) own.1 in
      let r' = subst (λ (y : NetEdge). pos 0 <ℤ x y.unknown → Reached x (net_of base m) y.«from») own.2 r in
      subst (λ (y : NetEdge). Reached (counted f) (net_of 0 m) y.«from») (sym e.3) (shift-reached e.1.from (r' used'))

  pub counts-joined : AreJoined m f
  counts-joined = record {
    not_negative = λ k d lt. (let e : pos 0 ≤ℤ pos (slice_index f (get_or (net_edges 0 m.edges) k d).unknown) = omega (arith, ints) in e);
    reached = λ k d lt used. shift-edge (get_or (net_edges 0 m.edges) k d)
        (slice_get-contains (net_edges 0 m.edges) k (get_or (net_edges 0 m.edges) k d) (slice_get-get_or (net_edges 0 m.edges) k d lt)) used;
  }

-- the counts that not negative values are
abbrev counts_from : (ℕ → ℤ) → ℕ → ℕ → List ℕ
counts_from x base zero = []
counts_from x base (suc n) = unsigned_abs (x base) ∷ counts_from x (suc base) n

counts_from-length : (x : ℕ → ℤ) (base n : ℕ) → length (counts_from x base n) ≡ n
counts_from-length x base zero = refl
counts_from-length x base (suc n) = ap suc (counts_from-length x (suc base) n)

counts_from-value : (x : ℕ → ℤ) (base n : ℕ) → ((k : ℕ) → k < n → pos 0 ≤ℤ x (base + k)) → (k : ℕ) → k < n → x (base + k) ≡ pos (slice_index (counts_from x base n) k)
counts_from-value x base zero h k lt = absurd (omega arith)
counts_from-value x base (suc n) h zero lt =
    let z : base + 0 ≡ base = omega arith in
    let p = subst (λ b. pos 0 ≤ℤ x b) z (h zero lt) in
    ap x z ∙ omega (arith, ints)
counts_from-value x base (suc n) h (suc k) lt =
    let z : base + suc k ≡ suc base + k = omega arith in
    ap x z ∙ counts_from-value x (suc base) n (λ j l. subst (λ b. pos 0 ≤ℤ x b) (omega arith) (h (suc j) (omega arith))) k (omega arith)

pub family-counts : (x : ℕ → ℤ) (machines : List Graph) (base : ℕ) → ((u : ℕ) → base ≤ u → u < unknowns_after base machines → pos 0 ≤ℤ x u)
    → All (Meets x) (family_rows base machines) → All (Joined x) (nets_of base machines) → HaveJoinedCounts x base machines
family-counts x [] base low met joined = tt
family-counts x (m ∷ ms) base low met joined =
    let more = after-more (base + size_of m) ms in
    let f = counts_from x base (size_of m) in
    let counts : AreCountsAt x base m f = record {
      size = counts_from-length x base (size_of m);
      values = counts_from-value x base (size_of m) (λ k lt. low (base + k) (omega arith) (omega arith));
    } in
    let own = all-first (Meets x) (machine_rows base m) (family_rows (base + size_of m) ms) met in
    let rest = all-second (Meets x) (machine_rows base m) (family_rows (base + size_of m) ms) met in (
      (f, counts, counts-balanced x base m f counts own, counts-joined x base m f counts (All-head (Joined x) (net_of base m) (nets_of (base + size_of m) ms) joined)),
      family-counts x ms (base + size_of m) (λ u a b. low u (omega arith) b) rest (All-tail (Joined x) (net_of base m) (nets_of (base + size_of m) ms) joined),
    )
  where
    after-more : (base : ℕ) (ms : List Graph) → base ≤ unknowns_after base ms
    after-more base [] = omega arith
    after-more base (m ∷ ms) = let r = after-more (base + size_of m) ms in omega arith
