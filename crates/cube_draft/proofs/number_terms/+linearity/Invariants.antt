use Rattle.std.proofs.Common.{◌≡◌, drop}
use Rattle.cube_draft.specs.Numbers.{joined_from, joined_on}
use Rattle.cube_draft.proofs.Forms.{seen_all}
use Rattle.cube_draft.proofs.number_terms.+linearity.Given as goal

abbrev pub invariant-join_all-loop-i : goal.invariant-join_all-loop-i
invariant-join_all-loop-i l = joined_on l.joining l.all (seen_all (drop l.i l.terms)) ≡ joined_from l.joining (seen_all l.terms)
