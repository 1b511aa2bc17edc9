use Rattle.std.proofs.Common.{subst, ◌++◌, ◌+◌, ◌≤◌, length, take, drop, sym, Option}
use Rattle.std.specs.Prelude.{IfSome}
use Rattle.machine_core.specs.declared.graph.Graph.{Graph}
use Rattle.part_machines.specs.Pairs.{AreMet, IsMet}
use Rattle.part_machines.proofs.PairLemmas.{met-none, met-two}
use Rattle.part_machines.proofs.pairs.meet_neighbours.Goals as goal

pub loop-at-init : goal.loop-at-init
loop-at-init c = subst (λ l. AreMet c.args.machines.now (l ++ c.args.machines.now)) (sym c.new-met.ensures) (met-none c.args.machines.now c.requires)

pub loop-at-preserved-in-Some : goal.loop-at-preserved-in-Some
loop-at-preserved-in-Some c =
    let ms = c.args.machines.now in
    let at = c.loop-at.at in
    let found = subst (λ (o : Option Graph). IfSome o (λ m. (at + 2 ≤ length ms) × IsMet (take 2 (drop at ms)) m)) c.in-Some.is c.in_ok-both.ensures in
    met-two ms c.loop-at.met c.push.new.self at c.in-Some.both found.0 c.loop-at.invariant found.1 c.in_ok-push-in-Some.ensures.ok
