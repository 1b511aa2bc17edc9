use Rattle.std.proofs.Common.{◌≡◌, suc, ◌+◌, drop, get_or, Some, slice_get, sym, subst, arith}
use Rattle.backward.specs.Families.{without}
use Rattle.backward.specs.PiecesBack.{HasMet, AreTakenBack}
use Rattle.backward.specs.Runs.{Runs}
use Rattle.backward.proofs.CutBackLemmas.{met-length, meeting-below, machine-there, run-there, piece-below, piece-kept, piece-run, join-begins, join-meets, join-first, join-second, join-free, so-far, taken-next, Joins}
use Rattle.backward.proofs.cut_lifting.lift_piece.Goals as goal

pub meeting_at-meeting-requires : goal.meeting_at-meeting-requires
meeting_at-meeting-requires c =
    let u = c.args.cut.now in
    meeting-below u.machines.now u.x u.target.now u.cuts.now u.pieces.now u.meetings.now c.requires.taken.0 c.args.place c.requires.place c.args.taken.runs c.args.taken.whole c.requires.taken.1

pub machine_before-machine-requires-clause-meetings : goal.machine_before-machine-requires-clause-meetings
machine_before-machine-requires-clause-meetings c =
    let u = c.args.cut.now in
    met-length u.machines.now u.x u.target.now u.cuts.now u.pieces.now u.meetings.now c.requires.taken.0 c.args.place c.requires.place c.args.taken.runs c.args.taken.whole c.requires.taken.1

pub machine_before-machine-requires-clause-machine : goal.machine_before-machine-requires-clause-machine
machine_before-machine-requires-clause-machine c =
    let u = c.args.cut.now in
    let k = machine-there u.machines.now u.x u.target.now u.cuts.now u.pieces.now u.meetings.now c.requires.taken.0 c.args.place c.requires.place c.args.taken.runs c.args.taken.whole c.requires.taken.1 in
    let next : suc c.args.place ≡ c.args.place + 1 = omega arith in
    (k.0, subst (λ n. HasMet u.machines.now (get_or u.pieces.now c.args.place 0) (drop n u.pieces.now) u.meetings.now k.0) next k.1)

pub run_at-run-requires : goal.run_at-run-requires
run_at-run-requires c =
    let u = c.args.cut.now in
    let r = run-there u.machines.now u.x u.target.now u.cuts.now u.pieces.now u.meetings.now c.requires.taken.0 c.args.place c.requires.place c.args.taken.runs c.args.taken.whole c.requires.taken.1 in
    (r.0, subst (λ (l : Runs). slice_get l (get_or u.pieces.now c.args.place 0) ≡ Some (Some r.0)) (sym c.as_slice.ensures) r.1)

pub take_apart-requires-clause-kept : goal.take_apart-requires-clause-kept
take_apart-requires-clause-kept c =
    let u = c.args.cut.now in
    let p = get_or u.pieces.now c.args.place 0 in
    let next : c.args.place + 1 ≡ suc c.args.place = omega arith in
    let g = c.machine_before-machine.result.now in
    let r = c.run_at-run.result.now in
    let mg = subst (λ n. HasMet u.machines.now p (drop n u.pieces.now) u.meetings.now g) next c.machine_before-machine.ensures in
    let mr = subst (λ (l : Runs). slice_get l p ≡ Some (Some r)) c.as_slice.ensures c.run_at-run.ensures in
    piece-kept u.machines.now u.x u.target.now u.cuts.now u.pieces.now u.meetings.now c.requires.taken.0 c.args.place c.requires.place c.args.taken.runs c.args.taken.whole c.requires.taken.1
    g mg c.meeting_at-meeting.result.now c.meeting_at-meeting.ensures r mr c.start_at-from.result c.start_at-from.ensures c.stop_at-to.result c.stop_at-to.ensures

pub take_apart-requires-clause-run : goal.take_apart-requires-clause-run
take_apart-requires-clause-run c =
    let u = c.args.cut.now in
    let p = get_or u.pieces.now c.args.place 0 in
    let next : c.args.place + 1 ≡ suc c.args.place = omega arith in
    let g = c.machine_before-machine.result.now in
    let r = c.run_at-run.result.now in
    let mg = subst (λ n. HasMet u.machines.now p (drop n u.pieces.now) u.meetings.now g) next c.machine_before-machine.ensures in
    let mr = subst (λ (l : Runs). slice_get l p ≡ Some (Some r)) c.as_slice.ensures c.run_at-run.ensures in
    piece-run u.machines.now u.x u.target.now u.cuts.now u.pieces.now u.meetings.now c.requires.taken.0 c.args.place c.requires.place c.args.taken.runs c.args.taken.whole c.requires.taken.1
    g mg c.meeting_at-meeting.result.now c.meeting_at-meeting.ensures r mr c.start_at-from.result c.start_at-from.ensures c.stop_at-to.result c.stop_at-to.ensures

pub lift_concat-requires-clause-begins : goal.lift_concat-requires-clause-begins
lift_concat-requires-clause-begins c =
    let u = c.args.cut.now in
    let p = get_or u.pieces.now c.args.place 0 in
    let next : c.args.place + 1 ≡ suc c.args.place = omega arith in
    let g = c.machine_before-machine.result.now in
    let r = c.run_at-run.result.now in
    let mg = subst (λ n. HasMet u.machines.now p (drop n u.pieces.now) u.meetings.now g) next c.machine_before-machine.ensures in
    let mr = subst (λ (l : Runs). slice_get l p ≡ Some (Some r)) c.as_slice.ensures c.run_at-run.ensures in
    join-begins u.machines.now u.x u.target.now u.cuts.now u.pieces.now u.meetings.now c.requires.taken.0 c.args.place c.requires.place c.args.taken.runs c.args.taken.whole c.requires.taken.1
    g mg c.meeting_at-meeting.result.now c.meeting_at-meeting.ensures r mr c.start_at-from.result c.start_at-from.ensures c.stop_at-to.result c.stop_at-to.ensures c.in_ok-apart.apart c.in_ok-apart.ensures

pub lift_concat-requires-clause-meets : goal.lift_concat-requires-clause-meets
lift_concat-requires-clause-meets c =
    let u = c.args.cut.now in
    let p = get_or u.pieces.now c.args.place 0 in
    let next : c.args.place + 1 ≡ suc c.args.place = omega arith in
    let g = c.machine_before-machine.result.now in
    let r = c.run_at-run.result.now in
    let mg = subst (λ n. HasMet u.machines.now p (drop n u.pieces.now) u.meetings.now g) next c.machine_before-machine.ensures in
    let mr = subst (λ (l : Runs). slice_get l p ≡ Some (Some r)) c.as_slice.ensures c.run_at-run.ensures in
    join-meets u.machines.now u.x u.target.now u.cuts.now u.pieces.now u.meetings.now c.requires.taken.0 c.args.place c.requires.place c.args.taken.runs c.args.taken.whole c.requires.taken.1
    g mg c.meeting_at-meeting.result.now c.meeting_at-meeting.ensures r mr c.start_at-from.result c.start_at-from.ensures c.stop_at-to.result c.stop_at-to.ensures c.in_ok-apart.apart c.in_ok-apart.ensures

pub lift_concat-requires-clause-first : goal.lift_concat-requires-clause-first
lift_concat-requires-clause-first c =
    let u = c.args.cut.now in
    let p = get_or u.pieces.now c.args.place 0 in
    let next : c.args.place + 1 ≡ suc c.args.place = omega arith in
    let g = c.machine_before-machine.result.now in
    let r = c.run_at-run.result.now in
    let mg = subst (λ n. HasMet u.machines.now p (drop n u.pieces.now) u.meetings.now g) next c.machine_before-machine.ensures in
    let mr = subst (λ (l : Runs). slice_get l p ≡ Some (Some r)) c.as_slice.ensures c.run_at-run.ensures in
    join-first u.machines.now u.x u.target.now u.cuts.now u.pieces.now u.meetings.now c.requires.taken.0 c.args.place c.requires.place c.args.taken.runs c.args.taken.whole c.requires.taken.1
    g mg c.meeting_at-meeting.result.now c.meeting_at-meeting.ensures r mr c.start_at-from.result c.start_at-from.ensures c.stop_at-to.result c.stop_at-to.ensures c.in_ok-apart.apart c.in_ok-apart.ensures

pub lift_concat-requires-clause-second : goal.lift_concat-requires-clause-second
lift_concat-requires-clause-second c =
    let u = c.args.cut.now in
    let p = get_or u.pieces.now c.args.place 0 in
    let next : c.args.place + 1 ≡ suc c.args.place = omega arith in
    let g = c.machine_before-machine.result.now in
    let r = c.run_at-run.result.now in
    let mg = subst (λ n. HasMet u.machines.now p (drop n u.pieces.now) u.meetings.now g) next c.machine_before-machine.ensures in
    let mr = subst (λ (l : Runs). slice_get l p ≡ Some (Some r)) c.as_slice.ensures c.run_at-run.ensures in
    join-second u.machines.now u.x u.target.now u.cuts.now u.pieces.now u.meetings.now c.requires.taken.0 c.args.place c.requires.place c.args.taken.runs c.args.taken.whole c.requires.taken.1
    g mg c.meeting_at-meeting.result.now c.meeting_at-meeting.ensures r mr c.start_at-from.result c.start_at-from.ensures c.stop_at-to.result c.stop_at-to.ensures c.in_ok-apart.apart c.in_ok-apart.ensures

pub lift_concat-requires-clause-free : goal.lift_concat-requires-clause-free
lift_concat-requires-clause-free c =
    let u = c.args.cut.now in
    let p = get_or u.pieces.now c.args.place 0 in
    let next : c.args.place + 1 ≡ suc c.args.place = omega arith in
    let g = c.machine_before-machine.result.now in
    let r = c.run_at-run.result.now in
    let mg = subst (λ n. HasMet u.machines.now p (drop n u.pieces.now) u.meetings.now g) next c.machine_before-machine.ensures in
    let mr = subst (λ (l : Runs). slice_get l p ≡ Some (Some r)) c.as_slice.ensures c.run_at-run.ensures in
    join-free u.machines.now u.x u.target.now u.cuts.now u.pieces.now u.meetings.now c.requires.taken.0 c.args.place c.requires.place c.args.taken.runs c.args.taken.whole c.requires.taken.1
    g mg c.meeting_at-meeting.result.now c.meeting_at-meeting.ensures r mr c.start_at-from.result c.start_at-from.ensures c.stop_at-to.result c.stop_at-to.ensures c.in_ok-apart.apart c.in_ok-apart.ensures

pub set-requires : goal.set-requires
set-requires c =
    let u = c.args.cut.now in
    piece-below u.machines.now u.x u.target.now u.cuts.now u.pieces.now u.meetings.now c.requires.taken.0 c.args.place c.requires.place c.args.taken.runs c.args.taken.whole c.requires.taken.1

pub returns : goal.returns
returns c old taken =
    let u = c.args.cut.now in
    let p = get_or u.pieces.now c.args.place 0 in
    let next : c.args.place + 1 ≡ suc c.args.place = omega arith in
    let g = c.machine_before-machine.result.now in
    let r = c.run_at-run.result.now in
    let to = c.stop_at-to.result in
    let a = c.in_ok-apart.apart in
    let longer = c.in_ok-longer.longer in
    let mg = subst (λ n. HasMet u.machines.now p (drop n u.pieces.now) u.meetings.now g) next c.machine_before-machine.ensures in
    let mr = subst (λ (l : Runs). slice_get l p ≡ Some (Some r)) c.as_slice.ensures c.run_at-run.ensures in
    let so_far = so-far u.machines.now u.x u.target.now u.cuts.now u.pieces.now u.meetings.now old c.args.place c.requires.place c.args.taken.runs c.args.taken.whole taken
    g mg c.meeting_at-meeting.result.now c.meeting_at-meeting.ensures r mr c.start_at-from.result c.start_at-from.ensures to c.stop_at-to.ensures in
    let s = c.of-slice.ensures in
    let slice = c.of-slice.result in
    let joins = subst (Joins u.target.now 0) s.to (subst (λ f. Joins u.target.now f slice.to) s.from (subst (λ m. Joins m slice.from slice.to) s.target c.joined_runs_are_runs.ensures)) in
    let run = joins c.start_at-from.result c.args.taken.whole a.part longer so_far c.in_ok-apart.ensures.part c.in_ok-longer.ensures.joined in
    subst (λ n. AreTakenBack u.target.now (without u.machines.now u.x) u.cuts.now u.pieces.now u.meetings.now old n c.set.new.self longer) (sym next)
    (taken-next u.machines.now u.x u.target.now u.cuts.now u.pieces.now u.meetings.now old c.args.place c.requires.place c.args.taken.runs c.args.taken.whole taken
    g mg c.meeting_at-meeting.result.now c.meeting_at-meeting.ensures r mr c.start_at-from.result c.start_at-from.ensures to c.stop_at-to.ensures a c.in_ok-apart.ensures
    longer c.in_ok-longer.ensures.joined c.in_ok-longer.ensures.total run c.set.new.self c.set.ensures)
