-- What the test of one leaf answers.
use Rattle.std.specs.Prelude.{ℕ, ℤ, pos, List}
use Rattle.sv_linear.specs.Combining.{IsFirstOutside}
use Rattle.farkas_check.specs.Systems.{Constraint}
use Rattle.farkas_check.specs.Columns.{part_at}
use Rattle.farkas_check.specs.Fitting.{SumFits, LeafFits}
use Rattle.farkas_check.specs.declared.leaf_test.LeafTest.{LeafTest}
use Rattle.farkas_check.specs.declared.leaf_test.LeafTest.TheVariants.{Closes, Fails, Past}

-- the rule is met and no sum leaves 128 bits; or the rule isn't met; or this is the first column whose sum leaves them
abbrev pub LeafTold : Type 0 → List Constraint → List (ℕ × ℤ) → LeafTest → Type 0
LeafTold rule rows ms Closes = rule × LeafFits rows ms
LeafTold rule rows ms Fails = rule → ⊥
LeafTold rule rows ms (Past column) = IsFirstOutside (λ c. SumFits (part_at c) rows (pos 0) ms) column
