use Rattle.std.proofs.Common.{ℕ, ℤ, List}
use Rattle.std.specs.List.{AllByRecursion}
use Rattle.sv_terms.specs.Language.{Word}
use Rattle.flat_cubes.specs.Satisfying.{Defines}
use Rattle.length_rows.specs.Lengths.{AreMet, HasLengths}
use Rattle.length_rows.proofs.sum_rows.push_definitions.Given as goal

abbrev pub invariant-loop-definition : goal.invariant-loop-definition
invariant-loop-definition l = (x : ℕ → ℤ) (words : List Word) → AllByRecursion (Defines words) l.definitions → HasLengths l.base x words → AreMet x l.initial.rows → AreMet x l.rows
