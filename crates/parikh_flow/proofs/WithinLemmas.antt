-- The rows of a system name its unknowns alone, and hold no number whose negative isn't one of 128 bits.
use Rattle.std.proofs.Common.{◌≡◌, ℕ, zero, suc, ◌+◌, ◌-◌, ◌<◌, ◌≤◌, ◌^◌, ℤ, pos, negsuc, neg_ℤ, ◌+ℤ◌, List, [], ◌∷◌, ◌++◌, length, map, All, Option, Some, None, IfSome, slice_get, slice_index, get_or, nat_eq, Bool, true, false, cond, unsigned_abs, refl, ap, sym, ◌∙◌, subst, arith}
use Rattle.std.specs.List.{range_with_len}
use Rattle.std.proofs.lemmas.Int.{ints}
use Rattle.std.proofs.lemmas.Bool.Decides.{nat_tests}
use Rattle.std.proofs.lemmas.List.Elements.{All-nil, All-cons, All-head, All-tail, All-append, All-map, All-weaker}
use Rattle.sv_linear.specs.Combining.{IsSymmetric}
use Rattle.sv_linear.specs.Points.{unit}
use Rattle.sv_linear.specs.Rows.{IsRowWithin, HasSymmetricEntries}
use Rattle.sv_linear.specs.Terms.{coefficient, AscendsWithin}
use Rattle.sv_linear.specs.TermLaws.{below_low, met, passed, coefficient-append}
use Rattle.sv_linear.specs.declared.column.Column.TheVariants.{Unknown, Constant}
use Rattle.sv_linear.specs.declared.row.Row.{Row}
use Rattle.sv_linear.proofs.Ascending.{AscendsWithin-widen}
use Rattle.machine_core.specs.declared.edge.Edge.{Edge}
use Rattle.machine_core.specs.declared.end.End.{End}
use Rattle.machine_core.specs.declared.graph.Graph.{Graph}
use Rattle.farkas_check.specs.Systems.{Constraint}
use Rattle.farkas_check.specs.declared.system.System.{System}
use Rattle.parikh_flow.specs.Building.{CostsFit}
use Rattle.parikh_flow.specs.Counts.{size_of}
use Rattle.parikh_flow.specs.Rows.{unknowns_after, terms_by, machine_terms, family_terms, edge_cost, end_cost, register_row, not_negative_row, end_row, edge_balance, end_balance, state_row, machine_rows, family_rows, reach_rows, run_rows, IsSameRow, AreSameRows, IsSystemOf}
use Rattle.parikh_flow.proofs.FormLemmas.{after-most}
use Rattle.parikh_flow.proofs.PointLemmas.{range-all}
use Rattle.parikh_flow.proofs.FlowLemmas.{by_less}

small-symmetric : (z : ℤ) → unsigned_abs z ≤ 2 → IsSymmetric z
small-symmetric z h = omega arith

cost-symmetric : (n : ℕ) → n < 2 ^ 64 → IsSymmetric (pos n)
cost-symmetric n h = omega (arith, ints)

-- terms that stand between two unknowns, and whose coefficients may be negated
record AreBetween (low high : ℕ) (ts : List (ℕ × ℤ)) : Type 0 where
  before : (u : ℕ) → u < low → coefficient u ts ≡ pos 0
  behind : (u : ℕ) → high ≤ u → coefficient u ts ≡ pos 0
  each : (u : ℕ) → IsSymmetric (coefficient u ts)

between-none : (n : ℕ) → AreBetween n n []
between-none n = record { before = λ u h. refl; behind = λ u h. refl; each = λ u. small-symmetric (pos 0) (omega arith) }

between-wider : (low high low' high' : ℕ) (ts : List (ℕ × ℤ)) → low' ≤ low → high ≤ high' → AreBetween low high ts → AreBetween low' high' ts
between-wider low high low' high' ts a b t = record { before = λ u h. t.before u (omega arith); behind = λ u h. t.behind u (omega arith); each = t.each }

between-join : (low mid high : ℕ) (ts us : List (ℕ × ℤ)) → low ≤ mid → mid ≤ high → AreBetween low mid ts → AreBetween mid high us → AreBetween low high (ts ++ us)
between-join low mid high ts us le ge a b = record {
  before = λ u h. (let x = a.before u h in let y = b.before u (omega arith) in let e = coefficient-append u ts us in omega (arith, ints));
  behind = λ u h. (let x = a.behind u (omega arith) in let y = b.behind u h in let e = coefficient-append u ts us in omega (arith, ints));
  each = λ u. by_less u mid
      (λ lt. subst IsSymmetric (let y = b.before u lt in let e = coefficient-append u ts us in let z : coefficient u ts ≡ coefficient u (ts ++ us) = omega (arith, ints) in z) (a.each u))
      (λ ge. subst IsSymmetric (let x = a.behind u ge in let e = coefficient-append u ts us in let z : coefficient u us ≡ coefficient u (ts ++ us) = omega (arith, ints) in z) (b.each u));
}

between-term : (u : ℕ) (c : ℤ) → IsSymmetric c → AreBetween u (suc u) ((u, c) ∷ [])
between-term u c s = record {
  before = λ v h. other v (let t : nat_eq u v ≡ false = grind (arith, nat_tests) in t);
  behind = λ v h. other v (let t : nat_eq u v ≡ false = grind (arith, nat_tests) in t);
  each = λ v. by_test (nat_eq u v);
}
  where
    other : (v : ℕ) → nat_eq u v ≡ false → coefficient v ((u, c) ∷ []) ≡ pos 0
    other v t = passed v (u, c) [] (nat_eq u v) t

    by_test : (b : Bool) → IsSymmetric (cond b c (pos 0) +ℤ pos 0)
    by_test true = subst IsSymmetric (let z : c ≡ c +ℤ pos 0 = omega (arith, ints) in z) s
    by_test false = small-symmetric (pos 0) (omega arith)

terms-between : {X : Type 0} (by : X → ℤ) (base : ℕ) (xs : List X) → All (λ x. IsSymmetric (by x)) xs → AreBetween base (base + length xs) (terms_by by base xs)
terms-between by base [] h = subst (λ n. AreBetween base n []) (let z : base ≡ base + 0 = omega arith in z) (between-none base)
terms-between by base (x ∷ xs) h =
    subst (λ n. AreBetween base n (terms_by by base (x ∷ xs))) (let z : suc base + length xs ≡ base + suc (length xs) = omega arith in z)
    (between-join base (suc base) (suc base + length xs) ((base, by x) ∷ []) (terms_by by (suc base) xs) (omega arith) (omega arith)
    (between-term base (by x) (All-head (λ x. IsSymmetric (by x)) x xs h)) (terms-between by (suc base) xs (All-tail (λ x. IsSymmetric (by x)) x xs h)))

-- what an edge and an end give to a row may be negated
record EntriesFit (of_edge : Edge → ℤ) (of_end : End → ℤ) (m : Graph) : Type 0 where
  edges : All (λ e. IsSymmetric (of_edge e)) m.edges
  ends : All (λ e. IsSymmetric (of_end e)) m.ends

all-fit : (of_edge : Edge → ℤ) (of_end : End → ℤ) → ((e : Edge) → IsSymmetric (of_edge e)) → ((e : End) → IsSymmetric (of_end e)) → (m : Graph) → EntriesFit of_edge of_end m
all-fit of_edge of_end f g m = record { edges = λ k d lt. f (get_or m.edges k d); ends = λ k d lt. g (get_or m.ends k d) }

machine-between : (of_edge : Edge → ℤ) (of_end : End → ℤ) (base : ℕ) (m : Graph) → EntriesFit of_edge of_end m → AreBetween base (base + size_of m) (machine_terms of_edge of_end base m)
machine-between of_edge of_end base m h =
    subst (λ n. AreBetween base n (machine_terms of_edge of_end base m)) (let z : base + length m.edges + length m.ends ≡ base + (length m.edges + length m.ends) = omega arith in z)
    (between-join base (base + length m.edges) (base + length m.edges + length m.ends) (terms_by of_edge base m.edges) (terms_by of_end (base + length m.edges) m.ends) (omega arith) (omega arith)
    (terms-between of_edge base m.edges h.edges) (terms-between of_end (base + length m.edges) m.ends h.ends))

family-between : (of_edge : Edge → ℤ) (of_end : End → ℤ) (base : ℕ) (ms : List Graph) → All (EntriesFit of_edge of_end) ms → AreBetween base (unknowns_after base ms) (family_terms of_edge of_end base ms)
family-between of_edge of_end base [] h = between-none base
family-between of_edge of_end base (m ∷ ms) h =
    let more = after-most (base + size_of m) ms in
    between-join base (base + size_of m) (unknowns_after (base + size_of m) ms) (machine_terms of_edge of_end base m) (family_terms of_edge of_end (base + size_of m) ms) (omega arith) more
    (machine-between of_edge of_end base m (All-head (EntriesFit of_edge of_end) m ms h)) (family-between of_edge of_end (base + size_of m) ms (All-tail (EntriesFit of_edge of_end) m ms h))

-- a row that names unknowns below n alone, and whose numbers may be negated
record IsWithin (n : ℕ) (c : Constraint) : Type 0 where
  names : (u : ℕ) → n ≤ u → coefficient u c.terms ≡ pos 0
  each : (u : ℕ) → IsSymmetric (coefficient u c.terms)
  constant : IsSymmetric c.constant

within-between : (low high n : ℕ) (c : Constraint) → high ≤ n → AreBetween low high c.terms → IsSymmetric c.constant → IsWithin n c
within-between low high n c le b k = record { names = λ u h. b.behind u (omega arith); each = b.each; constant = k }

unit-small : (s t : ℕ) → unsigned_abs (unit s t) ≤ 1
unit-small s t = by_test (nat_eq t s)
  where
    by_test : (b : Bool) → unsigned_abs (cond b (pos 1) (pos 0)) ≤ 1
    by_test true = omega arith
    by_test false = omega arith

module _ (machines : List Graph) (integers registers : ℕ) where
  abbrev base : ℕ
  base = integers + registers

  abbrev all : ℕ
  all = unknowns_after (integers + registers) machines

  register-within : (k : ℕ) → k < registers → All (CostsFit k) machines → IsWithin all (register_row integers (integers + registers) machines k)
  register-within k lt fit =
      let more = after-most (integers + registers) machines in
      within-between (integers + k) all all (register_row integers (integers + registers) machines k) (omega arith)
      (between-join (integers + k) (suc (integers + k)) all ((integers + k, negsuc 0) ∷ []) (family_terms (edge_cost k) (end_cost k) (integers + registers) machines) (omega arith) (omega arith)
      (between-term (integers + k) (negsuc 0) (small-symmetric (negsuc 0) (omega arith)))
      (between-wider (integers + registers) all (suc (integers + k)) all (family_terms (edge_cost k) (end_cost k) (integers + registers) machines) (omega arith) (omega arith)
      (family-between (edge_cost k) (end_cost k) (integers + registers) machines (All-weaker (CostsFit k) (EntriesFit (edge_cost k) (end_cost k)) (λ m h. record {
        edges = All-weaker (λ e. slice_index e.cost k < 2 ^ 64) (λ e. IsSymmetric (edge_cost k e)) (λ e h. cost-symmetric (slice_index e.cost k) h) m.edges h.edges;
        ends = All-weaker (λ e. slice_index e.cost k < 2 ^ 64) (λ e. IsSymmetric (end_cost k e)) (λ e h. cost-symmetric (slice_index e.cost k) h) m.ends h.ends;
      }) machines fit))))
      (small-symmetric (pos 0) (omega arith))

  low-within : (u : ℕ) → u < all → IsWithin all (not_negative_row u)
  low-within u lt = within-between u (suc u) all (not_negative_row u) (omega arith) (between-term u (negsuc 0) (small-symmetric (negsuc 0) (omega arith))) (small-symmetric (pos 0) (omega arith))

  reach-within : (reach : Option ℕ) → IfSome reach (λ most. most < 2 ^ 64) → All (IsWithin all) (reach_rows (integers + registers) machines reach)
  reach-within None h = All-nil (IsWithin all)
  reach-within (Some most) h =
      All-cons (IsWithin all) _ []
      (within-between (integers + registers) all all _ (omega arith)
      (family-between (λ _. pos 1) (λ _. pos 0) (integers + registers) machines
      (λ k d lt. all-fit (λ _. pos 1) (λ _. pos 0) (λ e. small-symmetric (pos 1) (omega arith)) (λ e. small-symmetric (pos 0) (omega arith)) (get_or machines k d)))
      (let z : IsSymmetric (neg_ℤ (pos most)) = omega (arith, ints) in z))
      (All-nil (IsWithin all))

machine-within : (n base : ℕ) (m : Graph) → base + size_of m ≤ n → All (IsWithin n) (machine_rows base m)
machine-within n base m le =
    All-cons (IsWithin n) (end_row base m) (map (state_row base m) (range_with_len 0 m.states))
    (within-between (base + length m.edges) (base + length m.edges + length m.ends) n (end_row base m) (omega arith)
    (terms-between (λ _. pos 1) (base + length m.edges) m.ends (λ k d lt. small-symmetric (pos 1) (omega arith))) (small-symmetric (negsuc 0) (omega arith)))
    (All-map (IsWithin n) (state_row base m) (range_with_len 0 m.states) (range-all (λ s. IsWithin n (state_row base m s)) 0 m.states (λ s lt. at-state (0 + s))))
  where
    at-state : (s : ℕ) → IsWithin n (state_row base m s)
    at-state s =
        within-between base (base + size_of m) n (state_row base m s) le
        (machine-between (edge_balance s) (end_balance s) base m (all-fit (edge_balance s) (end_balance s)
        (λ e. let a = unit-small s e.to in let b = unit-small s e.from in small-symmetric (edge_balance s e) (omega (arith, ints)))
        (λ e. let a = unit-small s e.at in small-symmetric (end_balance s e) (omega (arith, ints))) m))
        (let a = unit-small s 0 in small-symmetric (unit s 0) (omega arith))

family-within : (n base : ℕ) (ms : List Graph) → unknowns_after base ms ≤ n → All (IsWithin n) (family_rows base ms)
family-within n base [] le = All-nil (IsWithin n)
family-within n base (m ∷ ms) le =
    let more = after-most (base + size_of m) ms in
    All-append (IsWithin n) (machine_rows base m) (family_rows (base + size_of m) ms) (machine-within n base m (omega arith)) (family-within n (base + size_of m) ms le)

run-rows-within : (machines : List Graph) (integers registers : ℕ) (reach : Option ℕ) → ((k : ℕ) → k < registers → All (CostsFit k) machines) → IfSome reach (λ most. most < 2 ^ 64)
    → All (IsWithin (unknowns_after (integers + registers) machines)) (run_rows machines integers registers reach)
run-rows-within machines integers registers reach fit small =
    let n = unknowns_after (integers + registers) machines in
    let more = after-most (integers + registers) machines in
    All-append (IsWithin (unknowns_after (integers + registers) machines)) _ _
    (All-append (IsWithin (unknowns_after (integers + registers) machines)) _ _
    (All-append (IsWithin (unknowns_after (integers + registers) machines)) _ _
    (All-map (IsWithin (unknowns_after (integers + registers) machines)) (register_row integers (integers + registers) machines) (range_with_len 0 registers)
    (range-all (λ k. IsWithin (unknowns_after (integers + registers) machines) (register_row integers (integers + registers) machines k)) 0 registers
    (λ k lt. register-within machines integers registers (0 + k) (omega arith) (fit (0 + k) (omega arith)))))
    (All-map (IsWithin (unknowns_after (integers + registers) machines)) not_negative_row (range_with_len integers (unknowns_after (integers + registers) machines - integers))
    (range-all (λ u. IsWithin (unknowns_after (integers + registers) machines) (not_negative_row u)) integers (unknowns_after (integers + registers) machines - integers)
    (λ k lt. low-within machines integers registers (integers + k) (omega arith)))))
    (family-within (unknowns_after (integers + registers) machines) (integers + registers) machines (omega arith)))
    (reach-within machines integers registers reach small)

-- unknowns without a coefficient aren't named
ascends-below : (low high n : ℕ) (ts : List (ℕ × ℤ)) → AscendsWithin low high ts → low ≤ n → ((u : ℕ) → n ≤ u → coefficient u ts ≡ pos 0) → AscendsWithin low n ts
ascends-below low high n [] h le none = le
ascends-below low high n (t ∷ ts) h le none =
    let first = h.0 in
    let own = met t.0 t ts (nat_eq t.0 t.0) (let e : nat_eq t.0 t.0 ≡ true = grind (arith, nat_tests) in e) (below_low (t.0 + 1) high t.0 ts h.1.1 (omega arith)) in
    let lt = by_less t.0 n (λ lt. lt) (λ ge. absurd (let z = sym own ∙ none t.0 ge in let some = h.1.0 in let a = ap unsigned_abs z in omega arith)) in (
      first,
      (
        h.1.0,
        ascends-below (t.0 + 1) high n ts h.1.1 (let l : t.0 < n = lt in omega arith)
            (λ u ge. let l : t.0 < n = lt in let e : nat_eq t.0 u ≡ false = grind (arith, nat_tests) in sym (passed u t ts (nat_eq t.0 u) e) ∙ none u ge),
      ),
    )

same-within : (n : ℕ) (r : Row) (c : Constraint) → IsSameRow r c → IsWithin n c → IsRowWithin n r
same-within n r c s w = record {
  unknowns = ascends-below 0 (2 ^ 32) n r.form.coefficients r.form.ascending (omega arith) (λ u ge. s.terms u ∙ w.names u ge);
  symmetric = entries;
}
  where
    entries : HasSymmetricEntries r.form
    entries (Unknown u) = subst IsSymmetric (sym (s.terms u)) (w.each u)
    entries Constant = subst IsSymmetric (sym s.constant) w.constant

abbrev AllWithin : ℕ → List Row → Type 0
AllWithin n rows = (i : ℕ) (r : Row) → slice_get rows i ≡ Some r → IsRowWithin n r

same-all : (n : ℕ) (rs : List Row) (cs : List Constraint) → AreSameRows rs cs → All (IsWithin n) cs → AllWithin n rs
same-all n [] cs s w i r e = cc
same-all n (x ∷ rs) [] s w i r e = absurd s
same-all n (x ∷ rs) (c ∷ cs) s w zero r e = let h : x ≡ r = cc in subst (IsRowWithin n) h (same-within n x c s.0 (All-head (IsWithin n) c cs w))
same-all n (x ∷ rs) (c ∷ cs) s w (suc i) r e = same-all n rs cs s.1 (All-tail (IsWithin n) c cs w) i r e

within-append : (n : ℕ) (rs qs : List Row) → AllWithin n rs → AllWithin n qs → AllWithin n (rs ++ qs)
within-append n [] qs a b i r e = b i r e
within-append n (x ∷ rs) qs a b zero r e = a zero r e
within-append n (x ∷ rs) qs a b (suc i) r e = within-append n rs qs (λ i. a (suc i)) b i r e

row-wider : (n m : ℕ) (r : Row) → n ≤ m → IsRowWithin n r → IsRowWithin m r
row-wider n m r le h = record { unknowns = AscendsWithin-widen 0 n m r.form.coefficients le h.unknowns; symmetric = h.symmetric }

pub rows-within : (machines : List Graph) (integers registers : ℕ) (rows : List Row) (reach : Option ℕ) (s : System) → IsSystemOf machines integers registers rows reach s
    → ((k : ℕ) → k < registers → All (CostsFit k) machines) → IfSome reach (λ most. most < 2 ^ 64)
    → ((i : ℕ) (r : Row) → slice_get rows i ≡ Some r → IsRowWithin (integers + registers) r) → (i : ℕ) (r : Row) → slice_get s.rows i ≡ Some r → IsRowWithin s.unknowns r
rows-within machines integers registers rows reach s is fit small given =
    let more = after-most (integers + registers) machines in
    subst (λ (l : List Row). AllWithin s.unknowns l) (sym is.listed)
    (subst (λ n. AllWithin n (rows ++ is.more)) (sym is.unknowns)
    (within-append (unknowns_after (integers + registers) machines) rows is.more
    (λ i r e. row-wider (integers + registers) (unknowns_after (integers + registers) machines) r more (given i r e))
    (same-all (unknowns_after (integers + registers) machines) is.more (run_rows machines integers registers reach) is.added (run-rows-within machines integers registers reach fit small))))
