use Rattle.std.proofs.Common.{◌≡◌, take}
use Rattle.literal_forms.specs.Linear.{pieces}
use Rattle.cube_draft.specs.Gathered.{ArePieced}
use Rattle.cube_draft.proofs.Forms.{seen_all}
use Rattle.cube_draft.proofs.meeting.DraftBuilder.+terms.Given as goal

abbrev pub invariant-pieces-loop-i : goal.invariant-pieces-loop-i
invariant-pieces-loop-i l = record {
  met : ArePieced l.fn.self l.self (pieces (seen_all (take l.i l.terms))) l.fn.places l.places;
  numbers : l.self.numbers ≡ l.fn.self.numbers;
}
