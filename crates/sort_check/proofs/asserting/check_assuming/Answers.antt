use Rattle.std.proofs.Common.{rules, map}
use Rattle.sort_check.proofs.Counted.{check_assuming-few, check_assuming-many}
use Rattle.smt_names.specs.Form.{forms, seen}
use Rattle.smt_names.specs.Shapes.{one-seen}
use Rattle.sort_check.proofs.Written.{assuming-listed, assuming-none}
use Rattle.sort_check.proofs.asserting.check_assuming.Goals as goal
use Rattle.sort_check.proofs.asserting.check_assuming.Goals.{in_default-via-then-parts-lt1, in_default-via-else-parts-lt1+else-parts-lt2}

pub returns-in_default : goal.returns-in_default
returns-in_default c = elim c.in_default.branch [ in_default-via-then-parts-lt1 w ↦ check_assuming-few c.args.symbols.now c.args.parts.now (search rules) | in_default-via-else-parts-lt1+else-parts-lt2 w ↦ check_assuming-many c.args.symbols.now c.args.parts.now (search rules) ]

pub returns-in-Some : goal.returns-in-Some
returns-in-Some c = assuming-listed c.args.symbols.now (forms (map seen c.args.parts.now)) (seen c.items-item.result) (one-seen c.args.parts.now c.items-item.result c.in-len1.len_at_least c.in-len1.len_below c.items-item.is) (forms (map seen c.in-Some.items.now)) c.assumptions.result c.in-Some.ensures c.assumptions.ensures

pub returns-in-None : goal.returns-in-None
returns-in-None c = assuming-none c.args.symbols.now (forms (map seen c.args.parts.now)) (seen c.items-item.result) (one-seen c.args.parts.now c.items-item.result c.in-len1.len_at_least c.in-len1.len_below c.items-item.is) c.in-None.ensures
