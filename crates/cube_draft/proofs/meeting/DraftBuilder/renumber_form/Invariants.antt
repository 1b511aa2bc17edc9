use Rattle.std.proofs.Common.{◌≡◌, ◌^◌, ℕ, take}
use Rattle.sv_linear.specs.Terms.{AscendsWithin, coefficient}
use Rattle.cube_draft.specs.Comparing.{sum_at}
use Rattle.cube_draft.proofs.meeting.DraftBuilder.renumber_form.Given as goal

abbrev pub invariant-loop-i : goal.invariant-loop-i
invariant-loop-i l = record {
  ascending : AscendsWithin 0 (2 ^ 32) l.terms;
  sums : (n : ℕ) → coefficient n l.terms ≡ sum_at l.self.numbers l.unknowns.codes n (take l.i l.form.coefficients);
}
