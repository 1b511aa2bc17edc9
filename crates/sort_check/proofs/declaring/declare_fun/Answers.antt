use Rattle.std.proofs.Common.{rules}
use Rattle.sort_check.proofs.Counted.{declare_fun-few, declare_fun-many}
use Rattle.sort_check.proofs.Declared.{declare_fun-empty, declare_fun-full}
use Rattle.sort_check.proofs.declaring.declare_fun.Goals as goal
use Rattle.sort_check.proofs.declaring.declare_fun.Goals.{in_default-via-then-parts-lt3, in_default-via-else-parts-lt3+else-parts-lt4}

pub returns-in_default : goal.returns-in_default
returns-in_default c = elim c.in_default.branch [ in_default-via-then-parts-lt3 w ↦ declare_fun-few c.args.symbols.now c.args.parts.now (search rules) | in_default-via-else-parts-lt3+else-parts-lt4 w ↦ declare_fun-many c.args.symbols.now c.args.parts.now (search rules) ]

pub returns-then-is_empty_list : goal.returns-then-is_empty_list
returns-then-is_empty_list c = declare_fun-empty c.args.symbols.now c.args.parts.now c.name-item.result c.parameters-item.result c.sort-item.result c.is_empty_list.result c.declaration.result c.in-len3.len_at_least c.in-len3.len_below c.name-item.is c.parameters-item.is c.sort-item.is c.is_empty_list.ensures c.if-is_empty_list.true c.declaration.ensures

pub returns-else-is_empty_list : goal.returns-else-is_empty_list
returns-else-is_empty_list c = declare_fun-full c.args.symbols.now c.args.parts.now c.parameters-item.result c.is_empty_list.result c.in-len3.len_at_least c.in-len3.len_below c.parameters-item.is c.is_empty_list.ensures c.if-is_empty_list.false
