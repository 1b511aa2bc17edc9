use Rattle.std.proofs.Common.{ℕ, ℤ, List}
use Rattle.std.specs.List.{AllZip}
use Rattle.sv_terms.specs.Language.{Word}
use Rattle.flat_cubes.specs.Satisfying.{MeetsParts}
use Rattle.length_rows.specs.Lengths.{AreMet, HasLengths}
use Rattle.length_rows.proofs.part_rows.push_variables.Given as goal

abbrev pub invariant-loop-at : goal.invariant-loop-at
invariant-loop-at l = (x : ℕ → ℤ) (words : List Word) → AllZip MeetsParts l.variables words → HasLengths l.base x words → AreMet x l.initial.rows → AreMet x l.rows
