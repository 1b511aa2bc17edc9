-- The rows of a node: the system's, and those of the branches above it, as they stand on the borrowed stack.
use Rattle.std.specs.Prelude.{pos, List, [], ◌∷◌, ◌++◌, false}
use Rattle.farkas_check.specs.Systems.{Constraint, rows_of}
use Rattle.farkas_check.specs.Closings.{at_least, none_out, some_in}
use Rattle.farkas_check.specs.declared.system.System.{System}
use Rattle.farkas_check.specs.declared.branch.Branch.{Branch}
use Rattle.farkas_check.specs.declared.branch.Branch.TheVariants.{AtMost, AtLeast, NoneOut, SomeIn}
use Rattle.farkas_check.specs.declared.above.Above.{Above, Top, More'}

-- the constant of an upper bound is the negated bound
abbrev pub constraint_of_branch : Branch → Constraint
constraint_of_branch (AtMost u c) = record { terms = (u, pos 1) ∷ []; constant = c; equal = false }
constraint_of_branch (AtLeast u at) = at_least u at
constraint_of_branch (NoneOut net set) = none_out net.now set.now
constraint_of_branch (SomeIn net set) = some_in net.now set.now

-- from the root to the nearest
abbrev pub constraints_above : Above → List Constraint
constraints_above Top = []
constraints_above (More' b p rest) = constraints_above rest ++ constraint_of_branch b ∷ []

-- the system's rows, and then those of the branches from the root
abbrev pub node_rows : System → Above → List Constraint
node_rows s above = rows_of s ++ constraints_above above
