use Rattle.std.proofs.Common.{◌≡◌, length, take}
use Rattle.straight_line.specs.Filling.{named_all}
use Rattle.straight_line.proofs.filling.add_names.Given as goal

abbrev pub invariant-loop-name : goal.invariant-loop-name
invariant-loop-name l = (l.i ≡ length l.yielded) × (length l.variables.items ≡ length l.fn.variables.items) × (l.variables.items ≡ named_all (take l.i l.of) l.yielded l.fn.variables.items)
