use Rattle.std.proofs.Common.{List, [], arith, ap, subst, sym, Err}
use Rattle.machine_core.specs.declared.graph.Graph.{Graph}
use Rattle.part_machines.specs.Sides.{AreSides}
use Rattle.part_machines.proofs.PartLemmas.{item-below}
use Rattle.part_machines.proofs.SideLemmas.{no-sides, side-more, side-every}
use Rattle.part_machines.proofs.own.sides_of.Goals as goal

pub loop-part-init : goal.loop-part-init
loop-part-init c = subst (λ (ms : List Graph). AreSides [] ms c.new-outside.result) (sym c.new-within.ensures) (subst (AreSides [] []) (sym c.new-outside.ensures) no-sides)

pub loop-part-preserved : goal.loop-part-preserved
loop-part-preserved c =
    side-more c.args.parts.now c.loop-part.part-index c.part-item.result c.loop-part.within c.add_side.new.within c.loop-part.outside c.add_side.new.outside c.loop-part-test.true c.part-item.is c.loop-part.invariant c.in_ok-add_side.ensures.added

pub returns-clause-sides : goal.returns-clause-sides
returns-clause-sides c = side-every c.args.parts.now c.loop-part.part-index c.loop-part.within c.loop-part.outside c.loop-part-test.false c.loop-part.invariant

pub returns-in_err-add_side-clause-refused : goal.returns-in_err-add_side-clause-refused
returns-in_err-add_side-clause-refused c = λ n e.
    let d = rw e at c.from_residual.ensures.1 in
    let past = c.in_err-add_side.ensures.refused n (ap Err (sym d)) in
    let below = item-below c.args.parts.now c.loop-part.part-index c.part-item.result c.loop-part-test.true c.part-item.is in
    omega (arith, past, below)
