use Rattle.std.proofs.Common.{◌≡◌, suc, ◌-◌, ◌<◌, ◌∷◌, length, drop, get_or, Some, slice_set, refl, sym, ap, ◌∙◌, subst, arith, Err}
use Rattle.std.proofs.lemmas.Option.{slice_get_within}
use Rattle.machine_core.specs.declared.graph.Graph.{Graph}
use Rattle.backward.specs.Families.{Family, HasMachine, without}
use Rattle.backward.specs.Carried.{IsCarried}
use Rattle.backward.specs.Made.{AreMet}
use Rattle.backward.proofs.LoopLemmas.{met-first, met-next, found-can, same-found, loop-first, loop-piece, loop-registers, loop-fits, loop-next, loop-state, loop-wide}
use Rattle.backward.proofs.carrying.carry_concat.Goals as goal

pub machine_at-target-requires : goal.machine_at-target-requires
machine_at-target-requires c = (c.requires.0, subst (λ l. HasMachine l c.args.x c.requires.0) (sym c.as_slice.ensures) c.requires.1.machine)

pub share_without-requires : goal.share_without-requires
share_without-requires c = subst (λ (l : Family). c.args.x < length l) (sym c.as_slice-2.ensures) (slice_get_within c.args.state.now.machines c.args.x (Some c.requires.0) c.requires.1.machine)

pub loop-left-init : goal.loop-left-init
loop-left-init c =
    let s = c.args.state.now in
    let g = c.machine_at-target.result.now in
    let found = subst (λ l. HasMachine l c.args.x g) c.as_slice.ensures c.machine_at-target.ensures in
    let can = found-can s.machines c.args.x c.requires.0 g c.args.pieces.now c.args.cuts.now c.requires.1 found in
    let gone : c.in_ok-machines.machines ≡ without s.machines c.args.x = c.in_ok-machines.ensures ∙ ap (λ l. without l c.args.x) c.as_slice-2.ensures in
    record {
      within = omega arith;
      carried = subst (IsCarried s.registers s.machines c.args.x g _ _) (sym gone) (loop-first s.registers s.machines s.wide c.args.x g c.args.cuts.now c.args.pieces.now can);
      met = met-first g c.args.cuts.now c.args.pieces.now can.borders (without s.machines c.args.x) c.new-meetings.result c.new-meetings.ensures c.in_ok-machines.machines gone;
    }

pub machine_at-machine-requires : goal.machine_at-machine-requires
machine_at-machine-requires c =
    let s = c.args.state.now in
    let g = c.machine_at-target.result.now in
    let found = subst (λ l. HasMachine l c.args.x g) c.as_slice.ensures c.machine_at-target.ensures in
    let can = found-can s.machines c.args.x c.requires.0 g c.args.pieces.now c.args.cuts.now c.requires.1 found in
    let some = c.loop-left-test.true in
    let within = c.loop-left.invariant.within in
    let next : c.loop-left.left ≡ suc (c.loop-left.left - 1) = omega arith in
    let inv = subst (λ n. IsCarried s.registers s.machines c.args.x g (drop n (0 ∷ c.args.cuts.now)) (drop n c.args.pieces.now) c.loop-left.machines) next c.loop-left.invariant.carried in
    let p = loop-piece s.registers s.machines s.wide c.args.x g c.args.cuts.now c.args.pieces.now can (c.loop-left.left - 1) (omega arith) c.loop-left.machines inv in
    (p.1.1, subst (λ l. HasMachine l (get_or c.args.pieces.now (c.loop-left.left - 1) 0) p.1.1) (sym c.as_slice-in-loop-left.ensures) p.1.3)

pub meet_slice-requires-clause-from : goal.meet_slice-requires-clause-from
meet_slice-requires-clause-from c =
    let s = c.args.state.now in
    let g = c.machine_at-target.result.now in
    let found = subst (λ l. HasMachine l c.args.x g) c.as_slice.ensures c.machine_at-target.ensures in
    let can = found-can s.machines c.args.x c.requires.0 g c.args.pieces.now c.args.cuts.now c.requires.1 found in
    loop-state s.registers s.machines s.wide c.args.x g c.args.cuts.now c.args.pieces.now can (c.loop-left.left - 1) c.start_at-from.result c.start_at-from.ensures

pub meet_slice-requires-clause-registers : goal.meet_slice-requires-clause-registers
meet_slice-requires-clause-registers c =
    let s = c.args.state.now in
    let g = c.machine_at-target.result.now in
    let found = subst (λ l. HasMachine l c.args.x g) c.as_slice.ensures c.machine_at-target.ensures in
    let can = found-can s.machines c.args.x c.requires.0 g c.args.pieces.now c.args.cuts.now c.requires.1 found in
    let some = c.loop-left-test.true in
    let within = c.loop-left.invariant.within in
    let next : c.loop-left.left ≡ suc (c.loop-left.left - 1) = omega arith in
    let inv = subst (λ n. IsCarried s.registers s.machines c.args.x g (drop n (0 ∷ c.args.cuts.now)) (drop n c.args.pieces.now) c.loop-left.machines) next c.loop-left.invariant.carried in
    let h = subst (λ l. HasMachine l (get_or c.args.pieces.now (c.loop-left.left - 1) 0) c.machine_at-machine.result.now) c.as_slice-in-loop-left.ensures c.machine_at-machine.ensures in
    loop-registers s.registers s.machines s.wide c.args.x g c.args.cuts.now c.args.pieces.now can (c.loop-left.left - 1) (omega arith) c.loop-left.machines inv c.machine_at-machine.result.now h

pub meet_slice-requires-clause-fits : goal.meet_slice-requires-clause-fits
meet_slice-requires-clause-fits c =
    let s = c.args.state.now in
    let g = c.machine_at-target.result.now in
    let found = subst (λ l. HasMachine l c.args.x g) c.as_slice.ensures c.machine_at-target.ensures in
    let can = found-can s.machines c.args.x c.requires.0 g c.args.pieces.now c.args.cuts.now c.requires.1 found in
    let some = c.loop-left-test.true in
    let within = c.loop-left.invariant.within in
    let next : c.loop-left.left ≡ suc (c.loop-left.left - 1) = omega arith in
    let inv = subst (λ n. IsCarried s.registers s.machines c.args.x g (drop n (0 ∷ c.args.cuts.now)) (drop n c.args.pieces.now) c.loop-left.machines) next c.loop-left.invariant.carried in
    let h = subst (λ l. HasMachine l (get_or c.args.pieces.now (c.loop-left.left - 1) 0) c.machine_at-machine.result.now) c.as_slice-in-loop-left.ensures c.machine_at-machine.ensures in
    loop-fits s.registers s.machines s.wide c.args.x g c.args.cuts.now c.args.pieces.now can (c.loop-left.left - 1) (omega arith) c.loop-left.machines inv c.machine_at-machine.result.now h

pub set-requires : goal.set-requires
set-requires c =
    slice_get_within c.loop-left.machines (get_or c.args.pieces.now (c.loop-left.left - 1) 0) (Some c.machine_at-machine.result.now)
    (subst (λ l. HasMachine l (get_or c.args.pieces.now (c.loop-left.left - 1) 0) c.machine_at-machine.result.now) c.as_slice-in-loop-left.ensures c.machine_at-machine.ensures)

pub loop-left-preserved : goal.loop-left-preserved
loop-left-preserved c =
    let s = c.args.state.now in
    let g = c.machine_at-target.result.now in
    let found = subst (λ l. HasMachine l c.args.x g) c.as_slice.ensures c.machine_at-target.ensures in
    let can = found-can s.machines c.args.x c.requires.0 g c.args.pieces.now c.args.cuts.now c.requires.1 found in
    let some = c.loop-left-test.true in
    let within = c.loop-left.invariant.within in
    let next : c.loop-left.left ≡ suc (c.loop-left.left - 1) = omega arith in
    let inv = subst (λ n. IsCarried s.registers s.machines c.args.x g (drop n (0 ∷ c.args.cuts.now)) (drop n c.args.pieces.now) c.loop-left.machines) next c.loop-left.invariant.carried in
    let h = subst (λ l. HasMachine l (get_or c.args.pieces.now (c.loop-left.left - 1) 0) c.machine_at-machine.result.now) c.as_slice-in-loop-left.ensures c.machine_at-machine.ensures in
    let is : c.set.new.self ≡ slice_set c.loop-left.machines (get_or c.args.pieces.now (c.loop-left.left - 1) 0) (Some c.in_ok-meeting.meeting.small.machine) =
    c.set.ensures ∙ ap (λ (n : Graph). slice_set c.loop-left.machines (get_or c.args.pieces.now (c.loop-left.left - 1) 0) (Some n)) c.in_ok-met.ensures in
    let met = subst (λ n. AreMet g (drop n (0 ∷ c.args.cuts.now)) (drop n c.args.pieces.now) (without s.machines c.args.x) c.loop-left.meetings c.loop-left.machines) next c.loop-left.invariant.met in
    record {
      within = omega arith;
      carried = subst (IsCarried s.registers s.machines c.args.x g (drop (c.loop-left.left - 1) (0 ∷ c.args.cuts.now)) (drop (c.loop-left.left - 1) c.args.pieces.now)) (sym is)
          (loop-next s.registers s.machines s.wide c.args.x g c.args.cuts.now c.args.pieces.now can (c.loop-left.left - 1) (omega arith) c.loop-left.machines inv c.machine_at-machine.result.now h
          c.start_at-from.result c.stop_at-to.result c.start_at-from.ensures c.stop_at-to.ensures c.in_ok-meeting.meeting.small.machine c.in_ok-meeting.ensures.kept.meets);
      met = met-next g c.args.cuts.now c.args.pieces.now (without s.machines c.args.x) (c.loop-left.left - 1) (omega arith) c.loop-left.machines c.loop-left.meetings met c.machine_at-machine.result.now h
          c.start_at-from.result c.stop_at-to.result c.start_at-from.ensures c.stop_at-to.ensures c.in_ok-meeting.meeting c.in_ok-meeting.ensures.kept c.push.new.self c.in_ok-push.ensures.ok c.set.new.self is;
    }

pub invariant_of-result : goal.invariant_of-result
invariant_of-result c =
    let s = c.args.state.now in
    let g = c.machine_at-target.result.now in
    let found = subst (λ l. HasMachine l c.args.x g) c.as_slice.ensures c.machine_at-target.ensures in
    let can = found-can s.machines c.args.x c.requires.0 g c.args.pieces.now c.args.cuts.now c.requires.1 found in
    record { wide = loop-wide s.registers s.machines s.wide c.args.x g c.args.cuts.now c.args.pieces.now can _ _ c.loop-left.machines c.loop-left.invariant.carried }

pub returns-clause-carried : goal.returns-clause-carried
returns-clause-carried c m can =
    let s = c.args.state.now in
    let g = c.machine_at-target.result.now in
    let found = subst (λ l. HasMachine l c.args.x g) c.as_slice.ensures c.machine_at-target.ensures in
    let same = same-found s.machines c.args.x g m found can.machine in
    let done = c.loop-left-test.false in
    let none : c.loop-left.left ≡ 0 = omega arith in
    subst (λ h. IsCarried s.registers s.machines c.args.x h (0 ∷ c.args.cuts.now) c.args.pieces.now c.loop-left.machines) same
    (subst (λ n. IsCarried s.registers s.machines c.args.x g (drop n (0 ∷ c.args.cuts.now)) (drop n c.args.pieces.now) c.loop-left.machines) none c.loop-left.invariant.carried)

pub returns-clause-made : goal.returns-clause-made
returns-clause-made c =
    let s = c.args.state.now in
    let g = c.machine_at-target.result.now in
    let done = c.loop-left-test.false in
    let none : c.loop-left.left ≡ 0 = omega arith in
    record {
      target = g;
      machine = subst (λ l. HasMachine l c.args.x g) c.as_slice.ensures c.machine_at-target.ensures;
      meetings = c.loop-left.meetings;
      made = refl;
      met = subst (λ n. AreMet g (drop n (0 ∷ c.args.cuts.now)) (drop n c.args.pieces.now) (without s.machines c.args.x) c.loop-left.meetings c.loop-left.machines) none c.loop-left.invariant.met;
    }

pub returns-in_err-meeting-clause-refused : goal.returns-in_err-meeting-clause-refused
returns-in_err-meeting-clause-refused c = λ n e.
    let d = rw e at c.from_residual-in_err-meeting.ensures.1 in
    c.in_err-meeting.ensures.refused n (ap Err (sym d))
