use Rattle.std.proofs.Common.{◌≡◌, drop}
use Rattle.literal_forms.specs.Linear.{are_strings}
use Rattle.cube_draft.proofs.Forms.{seen_all}
use Rattle.cube_draft.proofs.string_terms.+strings.Given as goal

abbrev pub invariant-are_strings-loop-i : goal.invariant-are_strings-loop-i
invariant-are_strings-loop-i l = are_strings (seen_all (drop l.i l.terms)) ≡ are_strings (seen_all (drop l.from l.terms))
