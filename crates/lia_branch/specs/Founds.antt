-- What a node needs, and what is found there.
use Rattle.std.specs.Prelude.{◌≡◌, ℕ, ℤ, pos, ◌+ℤ◌, ◌≤ℤ◌, ◌<◌, List, Some, All, length, slice_get}
use Rattle.sv_linear.specs.Combining.{IsSymmetric}
use Rattle.sv_linear.specs.declared.row.Row.{Row}
use Rattle.farkas_check.specs.Systems.{Meets, Solves, constraint_of}
use Rattle.farkas_check.specs.Closings.{ClosesRows}
use Rattle.farkas_check.specs.Cuts.{values_of, IsNetWithin}
use Rattle.farkas_check.specs.Fitting.{RowsFit}
use Rattle.farkas_check.specs.declared.net.Net.{Net}
use Rattle.farkas_check.specs.declared.system.System.{System}
use Rattle.farkas_check.specs.declared.tree.Tree.{Tree}
use Rattle.lia_tableau.specs.BasicPoints.{IsValueAt}
use Rattle.lia_tableau.specs.declared.standing.Standing.{Standing}
use Rattle.lia_tableau.specs.declared.table.Table.{Table}
use Rattle.lia_branch.specs.Nodes.{Node}
use Rattle.lia_branch.specs.DueSplits.{IsWholeAt, IsBetween}
use Rattle.lia_branch.specs.DueTrees.{Claim, split_count, IsClosed, StopsByFact}
use Rattle.lia_branch.specs.EvidenceHolds.{IsPastAt}
use Rattle.lia_branch.specs.LeafMultipliers.{AreRowsOf}
use Rattle.lia_branch.specs.PastSums.{IsPastSum}
use Rattle.lia_branch.specs.declared.stop.StopReason.{StopReason}
use Rattle.lia_branch.specs.declared.stop.StopReason.TheVariants.{Branches, PastRow, PastSum}
use Rattle.sv_linear.specs.Rows.{IsRowWithin}

-- no edge's unknown is below 0 where the rows are met
abbrev pub RowsCountEdges : List Row → List Net → Type 0
RowsCountEdges rows nets =
    (x : ℕ → ℤ) → ((i : ℕ) (r : Row) → slice_get rows i ≡ Some r → Meets x (constraint_of r)) → All (λ net. All (λ e. pos 0 ≤ℤ x e.unknown) net.edges) nets

-- the tableau has these rows, over the system's unknowns
pub record IsReadyTableau (s : System) (rows : List Row) (t : Table) : Type 0 where
  pub unknowns : t.unknowns ≡ s.unknowns
  pub same_rows : t.rows ≡ rows
  pub within : (i : ℕ) (r : Row) → slice_get rows i ≡ Some r → IsRowWithin s.unknowns r
  pub nets : All (IsNetWithin s.unknowns) s.nets
  pub counts : RowsCountEdges rows s.nets

-- a node of the system with these rows
pub record IsSystemNode (s : System) (rows : List Row) (node : Node) : Type 0 where
  pub unknowns : node.unknowns ≡ s.unknowns
  pub nets : node.nets ≡ s.nets
  pub rows_of : AreRowsOf node.rows rows

-- the least unknown whose value isn't whole, and the number below its value
pub record IsFraction (n : ℕ) (lines : List Standing) (u : ℕ) (at : ℤ) : Type 0 where
  pub within : u < n
  pub least : (v : ℕ) → v < u → IsWholeAt lines v
  pub between : IsBetween lines u at
  pub symmetric : IsSymmetric at
  pub next_symmetric : IsSymmetric (at +ℤ pos 1)

-- so for one unknown
pub record IsFractionAt (lines : List Standing) (u : ℕ) (at : ℤ) : Type 0 where
  pub between : IsBetween lines u at
  pub symmetric : IsSymmetric at
  pub next_symmetric : IsSymmetric (at +ℤ pos 1)

-- the values of the unknowns, all whole
pub record IsWholePoint (n : ℕ) (lines : List Standing) (point : List ℤ) : Type 0 where
  pub size : length point ≡ n
  pub value : (u : ℕ) → u < n → IsValueAt lines u (values_of point u) (pos 1)

pub record IsNodeSolution (node : Node) (point : List ℤ) : Type 0 where
  pub size : length point ≡ node.unknowns
  pub solves : Solves (values_of point) node.rows node.nets

-- the tree closes the node, with so many splits
pub record IsNodeClosing (node : Node) (tree : Tree) (splits : ℕ) : Type 0 where
  pub due : IsClosed tree node
  pub closes : ClosesRows node.nets node.rows tree
  pub fits : RowsFit node.nets node.rows tree
  pub count : split_count tree ≡ splits

abbrev pub stop_fact : StopReason → Claim
stop_fact Branches node = Unit {0}
stop_fact (PastRow first second at column) node = IsPastAt first second at column node
stop_fact (PastSum column) node = IsPastSum column node

-- the search stopped at the tree's first open leaf; or it used up its splits
pub record IsNodeStop (node : Node) (left : ℕ) (tree : Tree) (stop : StopReason) : Type 0 where
  pub stops : StopsByFact (stop_fact stop) tree node
  pub count : stop ≡ Branches → split_count tree ≡ left
