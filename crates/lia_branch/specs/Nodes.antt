-- The nodes of a tree: their rows, and the trails by which their bases are found.
use Rattle.std.specs.Prelude.{◌≡◌, ℕ, ℤ, ◌<◌, ◌↔◌, List, [], ◌∷◌, ◌++◌, length}
use Rattle.sv_linear.specs.Terms.{terms_value}
use Rattle.sv_linear.specs.declared.row.Row.{Row}
use Rattle.farkas_check.specs.Systems.{Constraint, is_equation, rows_of}
use Rattle.farkas_check.specs.declared.net.Net.{Net}
use Rattle.farkas_check.specs.declared.system.System.{System}
use Rattle.lia_tableau.specs.Bases.{IsInBasis, IsSlackBasis}
use Rattle.lia_tableau.specs.declared.table.Table.{Table}
use Rattle.lia_tableau.specs.Trails.{Trail}

-- the row says what the constraint does: its form has the same value everywhere
pub record IsRowOf (c : Constraint) (r : Row) : Type 0 where
  pub value : (x : ℕ → ℤ) → terms_value x r.form.coefficients ≡ terms_value x c.terms
  pub constant : r.form.constant ≡ c.constant
  pub kind : is_equation r.kind ≡ c.equal

-- where the trail of a node begins: at the first basis of the system's rows, or at the basis where the trail of the node
-- above ended, with the row of a branch
pub data Origin : Type 0 where
  root : List Row → Origin
  branch : Table → Constraint → Origin

-- the basis above, with the slack of the new row
pub record AddsSlack (above : Table) (c : Constraint) (start : Table) : Type 0 where
  pub unknowns : start.unknowns ≡ above.unknowns
  pub row : Row
  pub is_row : IsRowOf c row
  pub rows : start.rows ≡ above.rows ++ row ∷ []
  pub kept : (q : ℕ) → q < length above.lines → IsInBasis start.lines q ↔ IsInBasis above.lines q
  pub slack : IsInBasis start.lines (length above.lines)

-- the first basis: all slacks
pub record IsFirstBasis (unknowns : ℕ) (rows : List Row) (start : Table) : Type 0 where
  pub same_unknowns : start.unknowns ≡ unknowns
  pub same_rows : start.rows ≡ rows
  pub basis : IsSlackBasis unknowns start.lines

-- a node of a tree over a system: `rows` are those of the system and of the branches above it
pub record Node : Type 0 where
  pub unknowns : ℕ
  pub nets : List Net
  pub rows : List Constraint
  pub origin : Origin

abbrev pub root_of : System → Node
root_of s = record { unknowns = s.unknowns; nets = s.nets; rows = rows_of s; origin = root s.rows }

-- the node behind a branch, where the trail of the node above ended at `last`
abbrev pub child_of : Node → Table → Constraint → Node
child_of node last c = record { unknowns = node.unknowns; nets = node.nets; rows = node.rows ++ c ∷ []; origin = branch last c }

abbrev pub BeginsAt : ℕ → Origin → Table → Type 0
BeginsAt n (root rows) start = IsFirstBasis n rows start
BeginsAt n (branch above c) start = AddsSlack above c start

-- the trail of the node comes to this basis
pub record ComesTo (node : Node) (t : Table) : Type 0 where
  pub start : Table
  pub begins : BeginsAt node.unknowns node.origin start
  pub trail : Trail start t
