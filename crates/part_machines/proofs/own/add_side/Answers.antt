use Rattle.std.proofs.Common.{inl, inr, refl, sym, ap, subst, arith, Err, Option}
use Rattle.std.specs.Prelude.{IfSome}
use Rattle.machine_core.specs.declared.graph.Graph.{Graph}
use Rattle.cube_bounds.specs.Bounds.{part_bound}
use Rattle.sv_terms.specs.CutOff.{below-power}
use Rattle.sv_terms.specs.Bounds.{size}
use Rattle.part_machines.specs.Parts.{IsOfPart}
use Rattle.part_machines.specs.Sides.{ReadsOthers}
use Rattle.part_machines.proofs.PartLemmas.{others-made}
use Rattle.part_machines.proofs.own.add_side.Goals as goal

pub returns-in_err-machine-clause-refused : goal.returns-in_err-machine-clause-refused
returns-in_err-machine-clause-refused c = λ n e.
    let d = rw e at c.from_residual.ensures.1 in
    let past = c.in_err-machine.ensures.refused n (ap Err (sym d)) in
    let power = below-power (size c.in-Some.regex.now) in
    let bound = ap part_bound c.in-Some.ensures in
    omega (arith, past, power, bound)

pub returns-in_ok-push-in-Some-2-clause-added : goal.returns-in_ok-push-in-Some-2-clause-added
returns-in_ok-push-in-Some-2-clause-added c =
    let r = c.in-Some.regex.now in
    let m = c.in_ok-machine.machine in
    let n = c.in-Some-2.others in
    let others = subst (λ (o : Option Graph). IfSome o (ReadsOthers m)) c.in-Some-2.is c.in_ok-others.ensures in
    inl (n, subst (λ p. IsOfPart p n) (sym c.in-Some.ensures) (others-made r m n c.in_ok-machine.ensures.machine others), c.in_ok-push-in-Some-2.ensures.ok, refl)

pub returns-in_ok-push-in-None-clause-added : goal.returns-in_ok-push-in-None-clause-added
returns-in_ok-push-in-None-clause-added c = inr (c.in-Some.regex.now, c.in_ok-machine.machine, c.in-Some.ensures, c.in_ok-machine.ensures.machine, refl, c.in_ok-push-in-None.ensures.ok)

pub returns-clause-added : goal.returns-clause-added
returns-clause-added c = inl (c.in_ok-machine-2.machine, c.in_ok-machine-2.ensures.machine, c.in_ok-push.ensures.ok, refl)
