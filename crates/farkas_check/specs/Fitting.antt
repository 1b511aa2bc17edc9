-- When no sum of a tree leaves 128 bits.
use Rattle.std.specs.Prelude.{◌≡◌, ℕ, ℤ, pos, neg_ℤ, ◌+ℤ◌, ◌*ℤ◌, List, [], ◌∷◌, ◌++◌, Some, get_or, slice_get, FitsSigned}
use Rattle.std.specs.Int.{w128}
use Rattle.sv_linear.specs.Divisors.{Divides}
use Rattle.sv_linear.specs.declared.column.Column.{Column}
use Rattle.farkas_check.specs.Systems.{Constraint, no_constraint, rows_of}
use Rattle.farkas_check.specs.Closings.{Closes, combined, at_most, at_least, none_out, some_in}
use Rattle.farkas_check.specs.Columns.{part_at}
use Rattle.farkas_check.specs.declared.net.Net.{Net}
use Rattle.farkas_check.specs.declared.system.System.{System}
use Rattle.farkas_check.specs.declared.tree.Tree.{Tree}
use Rattle.farkas_check.specs.declared.tree.Tree.TheFolds.{rec-Tree}
use Rattle.farkas_check.specs.declared.tree.Tree.TheOpen.{Tree-F}

-- each product of a multiplier and a part of its row, and each partial sum in their order from a first number on, is a number of 128 bits
abbrev pub SumFits : (Constraint → ℤ) → List Constraint → ℤ → List (ℕ × ℤ) → Type 0
SumFits part rows sum [] = Unit {0}
SumFits part rows sum (m ∷ ms) =
    FitsSigned w128 (m.1 *ℤ part (get_or rows m.0 no_constraint))
    × (FitsSigned w128 (sum +ℤ m.1 *ℤ part (get_or rows m.0 no_constraint))
    × SumFits part rows (sum +ℤ m.1 *ℤ part (get_or rows m.0 no_constraint)) ms)

-- no sum of a leaf leaves 128 bits, at any column
abbrev pub LeafFits : List Constraint → List (ℕ × ℤ) → Type 0
LeafFits rows ms = (c : Column) → SumFits (part_at c) rows (pos 0) ms

abbrev pub Fitting : Type 1
Fitting = List Net → List Constraint → Type 0

-- no sum of a leaf and no constant of a branch's row does, by the children of a node
abbrev pub FitsLayer : {X : Type 0} → (X → Fitting) → Tree-F X → Fitting
FitsLayer fits (Tree-F.Split u at low high) nets rows =
    FitsSigned w128 (neg_ℤ at) × (FitsSigned w128 (at +ℤ pos 1) ×
    (fits low nets (rows ++ at_most u at ∷ []) × fits high nets (rows ++ at_least u (at +ℤ pos 1) ∷ [])))
FitsLayer fits (Tree-F.SetSplit i states none some) nets rows =
    ((net : Net) → slice_get nets i ≡ Some net → fits none nets (rows ++ none_out net states ∷ []) × fits some nets (rows ++ some_in net states ∷ []))
FitsLayer fits (Tree-F.Farkas ms) nets rows = LeafFits rows ms
FitsLayer fits (Tree-F.Divisor ms d) nets rows = LeafFits rows ms
FitsLayer fits Tree-F.Open nets rows = Unit {0}

unfoldable pub fitting_of : Tree → Fitting
fitting_of = rec-Tree Fitting (λ X back inner layer. FitsLayer inner layer)

abbrev pub RowsFit : List Net → List Constraint → Tree → Type 0
RowsFit nets rows tree = fitting_of tree nets rows

abbrev pub SumsFit : System → Tree → Type 0
SumsFit s tree = RowsFit s.nets (rows_of s) tree

-- the checker takes the tree: it closes the system, and no sum leaves 128 bits
abbrev pub IsAccepted : System → Tree → Type 0
IsAccepted s tree = Closes s tree × SumsFit s tree

-- at the column no sum leaves 128 bits, and d divides the sum of all
abbrev pub IsMultipleAt : List Constraint → List (ℕ × ℤ) → ℤ → Column → Type 0
IsMultipleAt rows ms d c = SumFits (part_at c) rows (pos 0) ms × Divides d (combined (part_at c) rows ms)
