use Rattle.std.proofs.Common.{sym, subst}
use Rattle.cube_table.specs.Standing.{IsStanding}
use Rattle.cube_table.proofs.Standing.{stands_left}
use Rattle.cube_table.proofs.script.Script.leave.Goals as goal

pub invariant_of-self : goal.invariant_of-self
invariant_of-self c = subst IsStanding (sym c.drop_last.ensures) (stands_left c.args.count c.self.inside.stack c.self.invariant)
