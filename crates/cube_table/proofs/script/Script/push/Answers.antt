use Rattle.std.proofs.Common.{sym, subst}
use Rattle.cube_table.specs.Standing.{IsStanding}
use Rattle.cube_table.proofs.Standing.{stands_pushed}
use Rattle.cube_table.proofs.script.Script.push.Goals as goal
use Rattle.cube_table.proofs.script.Script.push.Goals.{in-Ok, in-Err-Full, in-Err-Memory}

pub invariant_of-self : goal.invariant_of-self
invariant_of-self c =
    elim c.match-push.branch [
      | in-Ok w ↦ subst IsStanding (sym w.in-Ok.ensures.ok) (stands_pushed c.args.levels c.self.inside.stack c.self.invariant)
      | in-Err-Full w ↦ subst IsStanding (sym w.in-Err-Full.ensures.err) c.self.invariant
      | in-Err-Memory w ↦ subst IsStanding (sym w.in-Err-Memory.ensures.err) c.self.invariant
    ]
