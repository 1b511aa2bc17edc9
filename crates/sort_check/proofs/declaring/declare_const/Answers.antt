use Rattle.std.proofs.Common.{rules}
use Rattle.sort_check.proofs.Counted.{declare_const-few, declare_const-many}
use Rattle.sort_check.proofs.Written.{const-declared}
use Rattle.sort_check.proofs.declaring.declare_const.Goals as goal
use Rattle.sort_check.proofs.declaring.declare_const.Goals.{in_default-via-then-parts-lt2, in_default-via-else-parts-lt2+else-parts-lt3}

pub returns-in_default : goal.returns-in_default
returns-in_default c = elim c.in_default.branch [ in_default-via-then-parts-lt2 w ↦ declare_const-few c.args.symbols.now c.args.parts.now (search rules) | in_default-via-else-parts-lt2+else-parts-lt3 w ↦ declare_const-many c.args.symbols.now c.args.parts.now (search rules) ]

pub returns-in-len2 : goal.returns-in-len2
returns-in-len2 c = const-declared c.args.symbols.now c.args.parts.now c.name-item.result c.sort-item.result c.declaration.result c.in-len2.len_at_least c.in-len2.len_below c.name-item.is c.sort-item.is c.declaration.ensures
