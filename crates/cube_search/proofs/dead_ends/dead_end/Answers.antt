use Rattle.std.proofs.Common.{Some, sym, ap, ◌∙◌, subst}
use Rattle.sv_list.specs.Lists.{stands-at}
use Rattle.backward.specs.Families.{Family, HasMachine}
use Rattle.cube_search.proofs.DeadLemmas.{dead-machine}
use Rattle.cube_search.proofs.dead_ends.dead_end.Goals as goal

pub returns-then-is_dead : goal.returns-then-is_dead
returns-then-is_dead c =
    let m = c.index-machines-v.result in
    let dead = dead-machine m (sym c.is_dead.ensures ∙ c.if-is_dead.true) in
    let stands = stands-at c.as_slice-machines.result.now c.loop-v.v m c.loop-v-test.true c.index-machines-v.is in
    (dead.0, subst (λ (l : Family). HasMachine l c.loop-v.v dead.0) c.as_slice-machines.ensures (stands ∙ ap Some dead.1), dead.2)
