-- Systems of linear constraints over whole numbers, and what it is to solve one.
use Rattle.std.specs.Prelude.{◌≡◌, ℕ, ℤ, pos, ◌+ℤ◌, ◌≤ℤ◌, ◌<ℤ◌, List, [], map, Bool, true, false, IsTrue, All, Contains}
use Rattle.sv_linear.specs.Terms.{terms_value}
use Rattle.sv_linear.specs.declared.row.Row.{Row}
use Rattle.sv_linear.specs.declared.row.RowKind.{RowKind}
use Rattle.sv_linear.specs.declared.row.RowKind.TheVariants.{Le, Eq}
use Rattle.farkas_check.specs.declared.net.Net.{Net}
use Rattle.farkas_check.specs.declared.net.NetEdge.{NetEdge}
use Rattle.farkas_check.specs.declared.system.System.{System}

-- a row as it is meant: terms and a constant that add up to 0, or to at most 0
pub record Constraint : Type 0 where
  pub terms : List (ℕ × ℤ)
  pub constant : ℤ
  pub equal : Bool

abbrev pub no_constraint : Constraint
no_constraint = record { terms = []; constant = pos 0; equal = false }

abbrev pub is_equation : RowKind → Bool
is_equation Le = false
is_equation Eq = true

abbrev pub constraint_of : Row → Constraint
constraint_of r = record { terms = r.form.coefficients; constant = r.form.constant; equal = is_equation r.kind }

abbrev pub constraint_value : (ℕ → ℤ) → Constraint → ℤ
constraint_value x c = terms_value x c.terms +ℤ c.constant

-- the whole numbers x meet the row
pub record Meets (x : ℕ → ℤ) (c : Constraint) : Type 0 where
  pub at_most : constraint_value x c ≤ℤ pos 0
  pub equal : IsTrue c.equal → constraint_value x c ≡ pos 0

-- states that are reached from the start over edges whose unknown is above 0: over used edges
pub data Reached (x : ℕ → ℤ) (net : Net) : ℕ → Type 0 where
  reached_start : Reached x net net.start
  reached_edge : (e : NetEdge) → Contains net.edges e → pos 0 <ℤ x e.unknown → Reached x net e.«from» → Reached x net e.to

-- no unknown of an edge is below 0, and each state with a used edge out is reached (so that the counts of
-- edges are those of a walk, where they balance at each state: Euler)
pub record Joined (x : ℕ → ℤ) (net : Net) : Type 0 where
  pub not_negative : All (λ e. pos 0 ≤ℤ x e.unknown) net.edges
  pub reached : All (λ e. pos 0 <ℤ x e.unknown → Reached x net e.«from») net.edges

-- x meets each row and joins each net
pub record Solves (x : ℕ → ℤ) (rows : List Constraint) (nets : List Net) : Type 0 where
  pub meets : All (Meets x) rows
  pub joins : All (Joined x) nets

abbrev pub rows_of : System → List Constraint
rows_of s = map constraint_of s.rows

-- no whole numbers solve the system
abbrev pub HasNoSolution : System → Type 0
HasNoSolution s = (x : ℕ → ℤ) → Solves x (rows_of s) s.nets → ⊥
