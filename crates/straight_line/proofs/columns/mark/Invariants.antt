use Rattle.std.proofs.Common.{◌≡◌, take}
use Rattle.straight_line.specs.Columns.{marked_by}
use Rattle.straight_line.proofs.columns.mark.Given as goal

abbrev pub invariant-loop-unknown : goal.invariant-loop-unknown
invariant-loop-unknown l = l.used ≡ marked_by (take l.unknown-index l.terms) l.fn.used
