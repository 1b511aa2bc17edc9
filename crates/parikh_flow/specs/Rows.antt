-- The system of machines and rows. Its unknowns are the whole numbers, the registers, and then for each machine the counts of its edges and of its ends.
use Rattle.std.specs.Prelude.{◌≡◌, ℕ, suc, ◌+◌, ◌-◌, ℤ, pos, negsuc, neg_ℤ, ◌+ℤ◌, List, [], ◌∷◌, ◌++◌, length, map, slice_index, Option, Some, None, true, false}
use Rattle.std.specs.List.{AllZip, range_with_len}
use Rattle.sv_linear.specs.Terms.{coefficient}
use Rattle.sv_linear.specs.Points.{unit}
use Rattle.sv_linear.specs.declared.row.Row.{Row}
use Rattle.machine_core.specs.declared.edge.Edge.{Edge}
use Rattle.machine_core.specs.declared.end.End.{End}
use Rattle.machine_core.specs.declared.graph.Graph.{Graph}
use Rattle.farkas_check.specs.Systems.{Constraint, constraint_of}
use Rattle.farkas_check.specs.declared.system.System.{System}
use Rattle.parikh_flow.specs.Counts.{size_of}
use Rattle.parikh_flow.specs.Nets.{nets_of}

-- the first number behind the unknowns of the machines
abbrev pub unknowns_after : ℕ → List Graph → ℕ
unknowns_after base [] = base
unknowns_after base (m ∷ ms) = unknowns_after (base + size_of m) ms

-- a term for each element, with the unknowns from `base` on
abbrev pub terms_by : {X : Type 0} → (X → ℤ) → ℕ → List X → List (ℕ × ℤ)
terms_by by base [] = []
terms_by by base (x ∷ xs) = (base, by x) ∷ terms_by by (suc base) xs

-- a term for each edge and each end of a machine
abbrev pub machine_terms : (Edge → ℤ) → (End → ℤ) → ℕ → Graph → List (ℕ × ℤ)
machine_terms of_edge of_end base m = terms_by of_edge base m.edges ++ terms_by of_end (base + length m.edges) m.ends

-- what each machine adds, its unknowns counted from `base` on
abbrev pub by_machine : {X : Type 0} → (ℕ → Graph → List X) → ℕ → List Graph → List X
by_machine f base [] = []
by_machine f base (m ∷ ms) = f base m ++ by_machine f (base + size_of m) ms

-- a term for each edge and each end of all machines
abbrev pub family_terms : (Edge → ℤ) → (End → ℤ) → ℕ → List Graph → List (ℕ × ℤ)
family_terms of_edge of_end = by_machine (machine_terms of_edge of_end)

abbrev pub equation : List (ℕ × ℤ) → ℤ → Constraint
equation terms constant = record { terms = terms; constant = constant; equal = true }

abbrev pub inequality : List (ℕ × ℤ) → ℤ → Constraint
inequality terms constant = record { terms = terms; constant = constant; equal = false }

abbrev pub edge_cost : ℕ → Edge → ℤ
edge_cost k e = pos (slice_index e.cost k)

abbrev pub end_cost : ℕ → End → ℤ
end_cost k e = pos (slice_index e.cost k)

-- register k, whose unknown is the one after `integers + k` others: what edges and ends cost there, as often as they are used, is its total
abbrev pub register_row : ℕ → ℕ → List Graph → ℕ → Constraint
register_row integers base machines k = equation ((integers + k, negsuc 0) ∷ family_terms (edge_cost k) (end_cost k) base machines) (pos 0)

abbrev pub not_negative_row : ℕ → Constraint
not_negative_row u = inequality ((u, negsuc 0) ∷ []) (pos 0)

-- the ends of a machine are used once
abbrev pub end_row : ℕ → Graph → Constraint
end_row base m = equation (terms_by (λ _. pos 1) (base + length m.edges) m.ends) (negsuc 0)

-- at a state, what comes in, and 1 at the start, is what goes out and what ends there
abbrev pub edge_balance : ℕ → Edge → ℤ
edge_balance s e = unit s e.to +ℤ neg_ℤ (unit s e.from)

abbrev pub end_balance : ℕ → End → ℤ
end_balance s e = neg_ℤ (unit s e.at)

abbrev pub state_row : ℕ → Graph → ℕ → Constraint
state_row base m s = equation (machine_terms (edge_balance s) (end_balance s) base m) (unit s 0)

abbrev pub machine_rows : ℕ → Graph → List Constraint
machine_rows base m = end_row base m ∷ map (state_row base m) (range_with_len 0 m.states)

abbrev pub family_rows : ℕ → List Graph → List Constraint
family_rows = by_machine machine_rows

-- the words have together at most so many characters
abbrev pub reach_rows : ℕ → List Graph → Option ℕ → List Constraint
reach_rows base machines None = []
reach_rows base machines (Some reach) = inequality (family_terms (λ _. pos 1) (λ _. pos 0) base machines) (neg_ℤ (pos reach)) ∷ []

-- the rows that say of the unknowns that they are totals and counts of runs
abbrev pub run_rows : List Graph → ℕ → ℕ → Option ℕ → List Constraint
run_rows machines integers registers reach =
    map (register_row integers (integers + registers) machines) (range_with_len 0 registers)
    ++ map not_negative_row (range_with_len integers (unknowns_after (integers + registers) machines - integers))
    ++ family_rows (integers + registers) machines
    ++ reach_rows (integers + registers) machines reach

-- the same row: a form has at each unknown the sum of the terms there
pub record IsSameRow (r : Row) (c : Constraint) : Type 0 where
  pub terms : (u : ℕ) → coefficient u r.form.coefficients ≡ coefficient u c.terms
  pub constant : r.form.constant ≡ c.constant
  pub equal : (constraint_of r).equal ≡ c.equal

abbrev pub AreSameRows : List Row → List Constraint → Type 0
AreSameRows = AllZip IsSameRow

-- the system of machines with so many registers and of rows, with the row for reach where there is one
pub record IsSystemOf (machines : List Graph) (integers registers : ℕ) (rows : List Row) (reach : Option ℕ) (s : System) : Type 0 where
  pub unknowns : s.unknowns ≡ unknowns_after (integers + registers) machines
  pub nets : s.nets ≡ nets_of (integers + registers) machines
  pub more : List Row
  pub listed : s.rows ≡ rows ++ more
  pub added : AreSameRows more (run_rows machines integers registers reach)
