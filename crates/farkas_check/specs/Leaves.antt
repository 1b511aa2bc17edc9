-- What is asked of a leaf: its rows, its multipliers, and its sums.
use Rattle.std.specs.Prelude.{ℤ, List, ◌++◌, map}
use Rattle.sv_linear.specs.declared.column.Column.{Column}
use Rattle.farkas_check.specs.Systems.{Constraint, constraint_of}
use Rattle.farkas_check.specs.Branches.{constraints_above}
use Rattle.farkas_check.specs.Closings.{Allowed, OfEquations}
use Rattle.farkas_check.specs.Fitting.{IsMultipleAt}
use Rattle.farkas_check.specs.declared.leaf.Leaf.{Leaf}

abbrev pub leaf_rows : Leaf → List Constraint
leaf_rows l = map constraint_of l.rows.now ++ constraints_above l.above.now

abbrev pub IsAllowed : Leaf → Type 0
IsAllowed l = Allowed 0 (leaf_rows l) l.multipliers.now

abbrev pub HasEquations : Leaf → Type 0
HasEquations l = OfEquations 0 (leaf_rows l) l.multipliers.now

-- at the column no sum leaves 128 bits, and d divides the sum of all
abbrev pub HasMultipleAt : Leaf → ℤ → Column → Type 0
HasMultipleAt l d c = IsMultipleAt (leaf_rows l) l.multipliers.now d c
