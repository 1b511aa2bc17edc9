-- The multipliers of a leaf, read off a line: the slack of a row stands as often in the line as the row is taken.
use Rattle.std.specs.Prelude.{◌≡◌, ℕ, ℤ, pos, neg_ℤ, Bool, ◌*ℤ◌, ◌-◌, List, [], ◌∷◌, Some, length, slice_get, nat_lt, if◌then◌else◌}
use Rattle.std.specs.Int.{int_rem_euclid}
use Rattle.sv_linear.specs.declared.column.Column.{Column}
use Rattle.sv_linear.specs.declared.row.Row.{Row}
use Rattle.farkas_check.specs.Columns.{part_at}
use Rattle.farkas_check.specs.Fitting.{SumFits}
use Rattle.lia_tableau.specs.Crossing.{column_number}
use Rattle.farkas_check.specs.Systems.{Constraint}
use Rattle.lia_branch.specs.Nodes.{IsRowOf}

-- a pair of the row's number and its multiplier for each slack of a line over n unknowns
abbrev pub slack_multipliers : ℕ → ℤ → List (ℕ × ℤ) → List (ℕ × ℤ)
slack_multipliers n sign [] = []
slack_multipliers n sign (t ∷ ts) =
    if nat_lt t.0 n then slack_multipliers n sign ts else (t.0 - n, sign *ℤ t.1) ∷ slack_multipliers n sign ts

-- the terms of the unknowns
abbrev pub unknown_terms : ℕ → List (ℕ × ℤ) → List (ℕ × ℤ)
unknown_terms n [] = []
unknown_terms n (t ∷ ts) = if nat_lt t.0 n then t ∷ unknown_terms n ts else unknown_terms n ts

-- the rows say what the constraints do, one by one
pub record AreRowsOf (cs : List Constraint) (rows : List Row) : Type 0 where
  pub size : length cs ≡ length rows
  pub each : (i : ℕ) (c : Constraint) (r : Row) → slice_get cs i ≡ Some c → slice_get rows i ≡ Some r → IsRowOf c r

abbrev pub sign_of : Bool → ℤ
sign_of negated = if negated then neg_ℤ (pos 1) else pos 1

-- the sum at the column of this number leaves 128 bits
abbrev pub IsPastColumn : List Constraint → List (ℕ × ℤ) → ℕ → ℕ → Type 0
IsPastColumn cs ms n column = (place : Column) × ((column ≡ column_number n place) × (SumFits (part_at place) cs (pos 0) ms → ⊥))

-- the same, each taken to its remainder by d
abbrev pub slack_remainders : ℕ → ℤ → List (ℕ × ℤ) → List (ℕ × ℤ)
slack_remainders n d [] = []
slack_remainders n d (t ∷ ts) =
    if nat_lt t.0 n then slack_remainders n d ts else (t.0 - n, int_rem_euclid t.1 d) ∷ slack_remainders n d ts
