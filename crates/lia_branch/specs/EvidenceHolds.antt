-- What the evidence of an unfinished search says of the system.
use Rattle.std.specs.Prelude.{◌≡◌, ℕ, ◌⊎◌}
use Rattle.sv_linear.specs.declared.row.Row.{Row}
use Rattle.farkas_check.specs.Systems.{Constraint}
use Rattle.farkas_check.specs.declared.system.System.{System}
use Rattle.lia_tableau.specs.Adding.{IsPastRow}
use Rattle.lia_tableau.specs.Pivoting.{IsPastPivot}
use Rattle.lia_tableau.specs.declared.table.Table.{Table}
use Rattle.lia_branch.specs.Nodes.{Node, Origin, root, branch, IsRowOf, ComesTo, root_of}
use Rattle.lia_branch.specs.DueTrees.{split_count, StopsByFact}
use Rattle.lia_branch.specs.PastSums.{IsPastSum}
use Rattle.lia_branch.specs.declared.evidence.Evidence.{Evidence}
use Rattle.lia_branch.specs.declared.evidence.Evidence.TheVariants.{Branches, PastRow, PastSum}

-- at a basis of the node's trail, the due pivot has two rows whose cross product is too large
pub record IsPastInPivot (node : Node) (first second : Row) (at column : ℕ) : Type 0 where
  pub basis : Table
  pub comes : ComesTo node basis
  pub past : IsPastPivot basis first second at column

-- so has the row of the branch as it is added to the basis above
pub record IsPastInAddition (above : Table) (c : Constraint) (first second : Row) (at column : ℕ) : Type 0 where
  pub row : Row
  pub is_row : IsRowOf c row
  pub past : IsPastRow above row first second at column

abbrev pub IsPastAtOrigin : Origin → Row → Row → ℕ → ℕ → Type 0
IsPastAtOrigin (root rows) first second at column = ⊥
IsPastAtOrigin (branch above c) first second at column = IsPastInAddition above c first second at column

abbrev pub IsPastAt : Row → Row → ℕ → ℕ → Node → Type 0
IsPastAt first second at column node = IsPastInPivot node first second at column ⊎ IsPastAtOrigin node.origin first second at column

-- the number of splits after which a search is given up
abbrev pub split_limit : ℕ
split_limit = 2000

-- each tree stops at an open leaf, so one that closes the system is no evidence
abbrev pub Holds : System → Evidence → Type 0
Holds s (Branches tree) = (split_count tree ≡ split_limit) × StopsByFact (λ _. Unit {0}) tree (root_of s)
Holds s (PastRow tree first second at column) = StopsByFact (IsPastAt first second at column) tree (root_of s)
Holds s (PastSum tree column) = StopsByFact (IsPastSum column) tree (root_of s)
