use Rattle.std.proofs.Common.{◌≡◌, ◌++◌, take}
use Rattle.straight_line.specs.Columns.{chosen}
use Rattle.straight_line.proofs.renumbering.add_terms.Given as goal

abbrev pub invariant-loop-unknown : goal.invariant-loop-unknown
invariant-loop-unknown l = (l.form.constant ≡ l.fn.form.constant) × (l.form.coefficients ≡ l.fn.form.coefficients ++ chosen l.base l.numbers (take l.unknown-index l.terms))
