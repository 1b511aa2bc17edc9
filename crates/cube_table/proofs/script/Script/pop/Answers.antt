use Rattle.std.proofs.Common.{sym, subst}
use Rattle.cube_table.specs.Standing.{IsStanding}
use Rattle.cube_table.proofs.Standing.{stands_dropped}
use Rattle.cube_table.proofs.script.Script.pop.Goals as goal
use Rattle.cube_table.proofs.script.Script.pop.Goals.{in-Ok, in-Err}

pub invariant_of-self : goal.invariant_of-self
invariant_of-self c =
    elim c.match-pop.branch [
      | in-Ok w ↦ subst IsStanding (sym w.in-Ok.ensures.ok) (stands_dropped c.fronts_are_well_formed.ensures.prefix c.args.levels c.self.inside.stack c.self.invariant)
      | in-Err w ↦ subst IsStanding (sym w.in-Err.ensures.err) c.self.invariant
    ]
