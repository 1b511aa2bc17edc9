use Rattle.std.proofs.Common.{◌≡◌, ◌<◌, ◌+◌, ℕ, ℤ, pos, List, length, get_or}
use Rattle.sv_terms.specs.Language.{Word}
use Rattle.flat_cubes.specs.Satisfying.{word_at}
use Rattle.length_rows.specs.Lengths.{AreMet, HasLengths}
use Rattle.length_rows.proofs.sum_rows.push_registers.Given as goal

abbrev pub invariant-loop-at : goal.invariant-loop-at
invariant-loop-at l = (x : ℕ → ℤ) (words : List Word) → ((i : ℕ) → i < length l.registers → x (l.first + i) ≡ pos (length (word_at words (get_or l.registers i 0)))) → HasLengths l.base x words → AreMet x l.initial.rows → AreMet x l.rows
