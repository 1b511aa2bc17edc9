use Rattle.std.proofs.Common.{◌≡◌, ℕ, ℤ, pos, ◌-ℤ◌, List, length, map, drop}
use Rattle.sv_terms.specs.Language.{Word}
use Rattle.sv_terms.specs.Meaning.{joined}
use Rattle.sv_linear.specs.Forms.{form_value}
use Rattle.flat_cubes.specs.Satisfying.{word_at}
use Rattle.length_rows.specs.Lengths.{HasLengths}
use Rattle.length_rows.proofs.sum_rows.difference_of.Given as goal

abbrev pub invariant-loop-at : goal.invariant-loop-at
invariant-loop-at l = (x : ℕ → ℤ) (words : List Word) → HasLengths l.base x words → form_value x (pos 1) l.form ≡ pos (length (joined (map (word_at words) (drop l.at l.pieces)))) -ℤ x l.whole
