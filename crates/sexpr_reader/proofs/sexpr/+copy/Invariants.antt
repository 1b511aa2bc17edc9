use Rattle.std.proofs.Common.{◌≡◌, take}
use Rattle.sexpr_reader.proofs.sexpr.+copy.Given as goal

abbrev pub invariant-copy_sexprs-loop-item : goal.invariant-copy_sexprs-loop-item
invariant-copy_sexprs-loop-item l = l.all ≡ take l.item-index l.items
