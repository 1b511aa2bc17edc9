use Rattle.std.proofs.Common.{rules}
use Rattle.sort_check.proofs.Counted.{assertion-few, assertion-many}
use Rattle.sort_check.proofs.asserting.assertion.Goals as goal
use Rattle.sort_check.proofs.asserting.assertion.Goals.{in_default-via-then-parts-lt1, in_default-via-else-parts-lt1+else-parts-lt2}

pub returns-in_default : goal.returns-in_default
returns-in_default c = elim c.in_default.branch [ in_default-via-then-parts-lt1 w ↦ assertion-few c.args.symbols.now c.args.parts.now (search rules) | in_default-via-else-parts-lt1+else-parts-lt2 w ↦ assertion-many c.args.symbols.now c.args.parts.now (search rules) ]
