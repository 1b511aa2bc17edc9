use Rattle.std.proofs.Common.{rules, map}
use Rattle.sort_check.proofs.Counted.{get_value-few, get_value-many}
use Rattle.smt_names.specs.Form.{forms, seen}
use Rattle.smt_names.specs.Shapes.{one-seen}
use Rattle.sort_check.proofs.Written.{values-listed, values-none}
use Rattle.sort_check.proofs.asking.get_value.Goals as goal
use Rattle.sort_check.proofs.asking.get_value.Goals.{in_default-via-then-parts-lt1, in_default-via-else-parts-lt1+else-parts-lt2}

pub returns-in_default : goal.returns-in_default
returns-in_default c = elim c.in_default.branch [ in_default-via-then-parts-lt1 w ↦ get_value-few c.args.symbols.now c.args.parts.now (search rules) | in_default-via-else-parts-lt1+else-parts-lt2 w ↦ get_value-many c.args.symbols.now c.args.parts.now (search rules) ]

pub returns-in-Some : goal.returns-in-Some
returns-in-Some c = values-listed c.args.symbols.now (forms (map seen c.args.parts.now)) (seen c.terms-item.result) (one-seen c.args.parts.now c.terms-item.result c.in-len1.len_at_least c.in-len1.len_below c.terms-item.is) (forms (map seen c.in-Some.terms.now)) c.values.result c.in-Some.ensures c.values.ensures

pub returns-in-None : goal.returns-in-None
returns-in-None c = values-none c.args.symbols.now (forms (map seen c.args.parts.now)) (seen c.terms-item.result) (one-seen c.args.parts.now c.terms-item.result c.in-len1.len_at_least c.in-len1.len_below c.terms-item.is) c.in-None.ensures
