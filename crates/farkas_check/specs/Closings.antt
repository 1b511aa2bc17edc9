-- When a tree closes a system, its sums taken over unbounded whole numbers: by Farkas' lemma, by a divisor, and by cases.
use Rattle.std.specs.Prelude.{◌≡◌, ℕ, ℤ, pos, neg_ℤ, ◌+ℤ◌, ◌*ℤ◌, ◌≤ℤ◌, ◌<ℤ◌, ◌+◌, ◌<◌, ◌≤◌, ◌⊎◌, List, [], ◌∷◌, ◌++◌, Bool, true, false, IsTrue, Some, length, get_or, slice_get, nat_eq, ◌||◌, ◌&&◌, not, if◌then◌else◌}
use Rattle.sv_linear.specs.Terms.{coefficient}
use Rattle.sv_linear.specs.Divisors.{Divides}
use Rattle.farkas_check.specs.Systems.{Constraint, no_constraint, rows_of}
use Rattle.farkas_check.specs.declared.net.Net.{Net}
use Rattle.farkas_check.specs.declared.net.NetEdge.{NetEdge}
use Rattle.farkas_check.specs.declared.system.System.{System}
use Rattle.farkas_check.specs.declared.tree.Tree.{Tree}
use Rattle.farkas_check.specs.declared.tree.Tree.TheFolds.{rec-Tree}
use Rattle.farkas_check.specs.declared.tree.Tree.TheOpen.{Tree-F}

-- the sum of the multipliers times a part of their rows
abbrev pub combined : (Constraint → ℤ) → List Constraint → List (ℕ × ℤ) → ℤ
combined part rows [] = pos 0
combined part rows (m ∷ ms) = m.1 *ℤ part (get_or rows m.0 no_constraint) +ℤ combined part rows ms

abbrev pub coefficient_of : ℕ → Constraint → ℤ
coefficient_of u c = coefficient u c.terms

abbrev pub constant_of : Constraint → ℤ
constant_of c = c.constant

-- row numbers ascend from low on and are those of rows, and a multiplier below 0 is for an equation
abbrev pub Allowed : ℕ → List Constraint → List (ℕ × ℤ) → Type 0
Allowed low rows [] = Unit {0}
Allowed low rows (m ∷ ms) =
    (low ≤ m.0) × ((m.0 < length rows) × ((IsTrue (get_or rows m.0 no_constraint).equal ⊎ (pos 0 ≤ℤ m.1)) × Allowed (m.0 + 1) rows ms))

-- row numbers ascend from low on, and are those of equations
abbrev pub OfEquations : ℕ → List Constraint → List (ℕ × ℤ) → Type 0
OfEquations low rows [] = Unit {0}
OfEquations low rows (m ∷ ms) =
    (low ≤ m.0) × ((m.0 < length rows) × (IsTrue (get_or rows m.0 no_constraint).equal × OfEquations (m.0 + 1) rows ms))

-- the sum is a form without unknowns whose constant is above 0
pub record FarkasRule (rows : List Constraint) (ms : List (ℕ × ℤ)) : Type 0 where
  pub allowed : Allowed 0 rows ms
  pub vanishes : (u : ℕ) → combined (coefficient_of u) rows ms ≡ pos 0
  pub above_zero : pos 0 <ℤ combined constant_of rows ms

-- d divides each coefficient of the sum, and not its constant
pub record DivisorRule (rows : List Constraint) (ms : List (ℕ × ℤ)) (d : ℤ) : Type 0 where
  pub allowed : OfEquations 0 rows ms
  pub at_least_two : pos 2 ≤ℤ d
  pub divides : (u : ℕ) → Divides d (combined (coefficient_of u) rows ms)
  pub apart : Divides d (combined constant_of rows ms) → ⊥

abbrev pub at_most : ℕ → ℤ → Constraint
at_most u at = record { terms = (u, pos 1) ∷ []; constant = neg_ℤ at; equal = false }

abbrev pub at_least : ℕ → ℤ → Constraint
at_least u at = record { terms = (u, neg_ℤ (pos 1)) ∷ []; constant = at; equal = false }

abbrev pub contains_number : ℕ → List ℕ → Bool
contains_number n [] = false
contains_number n (m ∷ ms) = nat_eq m n || contains_number n ms

-- a term for each edge that leads out of a state of the set
abbrev pub edges_out : List ℕ → List NetEdge → ℤ → List (ℕ × ℤ)
edges_out set [] by = []
edges_out set (e ∷ es) by =
    if contains_number e.«from» set then (e.unknown, by) ∷ edges_out set es by else edges_out set es by

-- a term for each edge that enters the set from outside
abbrev pub edges_in : List ℕ → List NetEdge → ℤ → List (ℕ × ℤ)
edges_in set [] by = []
edges_in set (e ∷ es) by =
    if contains_number e.to set && not (contains_number e.«from» set) then (e.unknown, by) ∷ edges_in set es by else edges_in set es by

-- the counts of the edges out of the set add up to at most 0
abbrev pub none_out : Net → List ℕ → Constraint
none_out net set = record { terms = edges_out set net.edges (pos 1); constant = pos 0; equal = false }

-- the counts of the edges into the set add up to at least 1
abbrev pub some_in : Net → List ℕ → Constraint
some_in net set = record { terms = edges_in set net.edges (neg_ℤ (pos 1)); constant = pos 1; equal = false }

-- what is said of a node's rows, where these nets are the system's
abbrev pub Closing : Type 1
Closing = List Net → List Constraint → Type 0

-- a node meets its rule, by what is said of its children, and of an open leaf
abbrev pub NodeRule : Closing → {X : Type 0} → (X → Closing) → Tree-F X → Closing
NodeRule of_open said (Tree-F.Split u at low high) nets rows =
    said low nets (rows ++ at_most u at ∷ []) × said high nets (rows ++ at_least u (at +ℤ pos 1) ∷ [])
NodeRule of_open said (Tree-F.SetSplit i states none some) nets rows =
    ((net : Net) × ((slice_get nets i ≡ Some net) × ((contains_number net.start states ≡ true → ⊥) ×
    (said none nets (rows ++ none_out net states ∷ []) × said some nets (rows ++ some_in net states ∷ [])))))
NodeRule of_open said (Tree-F.Farkas ms) nets rows = FarkasRule rows ms
NodeRule of_open said (Tree-F.Divisor ms d) nets rows = DivisorRule rows ms d
NodeRule of_open said Tree-F.Open nets rows = of_open nets rows

-- so each node of the tree does
unfoldable pub said_by : Closing → Tree → Closing
said_by of_open = rec-Tree Closing (λ X back inner layer. NodeRule of_open inner layer)

abbrev pub never : Closing
never nets rows = ⊥

-- the tree closes these rows
abbrev pub ClosesRows : List Net → List Constraint → Tree → Type 0
ClosesRows nets rows tree = said_by never tree nets rows

-- no leaf is open, and every node meets its rule
abbrev pub Closes : System → Tree → Type 0
Closes s tree = ClosesRows s.nets (rows_of s) tree
