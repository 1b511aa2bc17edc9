use Rattle.std.proofs.Common.{◌≡◌, ℕ, ℤ, pos, length}
use Rattle.sv_terms.specs.Language.{Word}
use Rattle.flat_cubes.specs.Satisfying.{MeetsParts}
use Rattle.length_rows.specs.Lengths.{AreMet}
use Rattle.length_rows.proofs.part_rows.push_variable.Given as goal

abbrev pub invariant-loop-part : goal.invariant-loop-part
invariant-loop-part l = (x : ℕ → ℤ) (w : Word) → MeetsParts l.variable w → x l.unknown ≡ pos (length w) → AreMet x l.fn.rows → AreMet x l.rows
