use Rattle.std.proofs.Common.{◌≡◌, ◌+◌, drop}
use Rattle.literal_forms.specs.Numbered.{place_of}
use Rattle.literal_forms.proofs.unknowns.place.Given as goal

abbrev pub invariant-loop-i : goal.invariant-loop-i
invariant-loop-i l = place_of l.codes l.code ≡ l.i + place_of (drop l.i l.codes) l.code
