use Rattle.std.proofs.Common.{◌≡◌, Some, length, slice_get, get_or, ap, ◌∙◌, refl, arith, length-set}
use Rattle.std.proofs.lemmas.Result.{IfOk-weaker}
use Rattle.sv_list.specs.Lists.{slice_get-contains}
use Rattle.parikh_flow.proofs.TourLemmas.{step-places, step-inside, step-used, step-from, step-below, step-some, step-none, step-drained, step-way}
use Rattle.parikh_flow.proofs.tour.step.Goals as goal

pub next_left-requires : goal.next_left-requires
next_left-requires c = step-places c.args.machine.now.edges c.args.machine.now.edges c.args.machine.now.states c.requires.0 c.requires.1 c.args.tour.now.left c.args.tour.now.next c.args.tour.now.way c.args.tour.now.back c.as_slice-2.result.now c.as_slice.result.now c.edges_from-row.result.now c.args.tour.now.at c.requires.2 refl c.edges_from-row.ensures c.as_slice.ensures c.as_slice-2.ensures

pub bounds-row-i : goal.bounds-row-i
bounds-row-i c = step-inside c.args.machine.now.edges c.edges.result.now c.args.machine.now.states c.requires.0 c.requires.1 c.args.tour.now.left c.args.tour.now.next c.args.tour.now.way c.args.tour.now.back c.as_slice-2.result.now c.as_slice.result.now c.edges_from-row.result.now c.args.tour.now.at c.requires.2 c.edges.ensures c.edges_from-row.ensures c.as_slice.ensures c.as_slice-2.ensures c.in-Some.i c.in-Some.ensures

pub advance-requires-clause-place : goal.advance-requires-clause-place
advance-requires-clause-place c = step-below c.args.machine.now.edges c.edges.result.now c.args.machine.now.states c.requires.0 c.requires.1 c.args.tour.now.left c.args.tour.now.next c.args.tour.now.way c.args.tour.now.back c.as_slice-2.result.now c.as_slice.result.now c.edges_from-row.result.now c.args.tour.now.at c.requires.2 c.edges.ensures c.edges_from-row.ensures c.as_slice.ensures c.as_slice-2.ensures c.in-Some.i c.in-Some.ensures

pub advance-requires-clause-left : goal.advance-requires-clause-left
advance-requires-clause-left c = step-used c.args.machine.now.edges c.edges.result.now c.args.machine.now.states c.requires.0 c.requires.1 c.args.tour.now.left c.args.tour.now.next c.args.tour.now.way c.args.tour.now.back c.as_slice-2.result.now c.as_slice.result.now c.edges_from-row.result.now c.args.tour.now.at c.requires.2 c.edges.ensures c.edges_from-row.ensures c.as_slice.ensures c.as_slice-2.ensures c.in-Some.i c.in-Some.ensures

pub advance-requires-clause-from : goal.advance-requires-clause-from
advance-requires-clause-from c = step-from c.args.machine.now.edges c.edges.result.now c.args.machine.now.states c.requires.0 c.requires.1 c.args.tour.now.left c.args.tour.now.next c.args.tour.now.way c.args.tour.now.back c.as_slice-2.result.now c.as_slice.result.now c.edges_from-row.result.now c.args.tour.now.at c.requires.2 c.edges.ensures c.edges_from-row.ensures c.as_slice.ensures c.as_slice-2.ensures c.in-Some.i c.in-Some.ensures

pub advance-requires-clause-states : goal.advance-requires-clause-states
advance-requires-clause-states c = λ e g.
    let is : slice_get c.args.machine.now.edges (get_or c.edges_from-row.result.now c.in-Some.i 0) ≡ Some e = rw c.edges.ensures at g in
    let to = (c.args.machine.now.formed.edge e (slice_get-contains c.args.machine.now.edges _ e is)).to in
    let rows = c.requires.2.rows in
    let size = ap length c.set.ensures ∙ length-set c.args.tour.now.next c.args.tour.now.at c.in-Some.i in
    omega arith

pub retreat-requires-clause-drained : goal.retreat-requires-clause-drained
retreat-requires-clause-drained c = rw c.edges-in-None.ensures (step-drained c.args.machine.now.edges c.edges-in-None.result.now c.args.machine.now.states c.requires.0 c.requires.1 c.args.tour.now.left c.args.tour.now.next c.args.tour.now.way c.args.tour.now.back c.as_slice-2.result.now c.as_slice.result.now c.edges_from-row.result.now c.args.tour.now.at c.requires.2 c.edges-in-None.ensures c.edges_from-row.ensures c.as_slice.ensures c.as_slice-2.ensures c.in-None.ensures)

pub retreat-requires-clause-places : goal.retreat-requires-clause-places
retreat-requires-clause-places c = step-way c.args.machine.now.edges c.edges-in-None.result.now c.args.machine.now.states c.requires.0 c.requires.1 c.args.tour.now.left c.args.tour.now.next c.args.tour.now.way c.args.tour.now.back c.as_slice-2.result.now c.as_slice.result.now c.edges_from-row.result.now c.args.tour.now.at c.requires.2 c.edges-in-None.ensures c.edges_from-row.ensures c.as_slice.ensures c.as_slice-2.ensures

pub returns-in_ok-advance-in-Some-clause-tour : goal.returns-in_ok-advance-in-Some-clause-tour
returns-in_ok-advance-in-Some-clause-tour c = λ _ f stop t.
    (rw c.edges.ensures at c.in_ok-advance-in-Some.ensures.tour) c.args.machine.now.states f stop
    (step-some c.args.machine.now.edges c.edges.result.now c.args.machine.now.states f stop c.args.tour.now.left c.args.tour.now.next c.args.tour.now.way c.args.tour.now.back c.as_slice-2.result.now c.as_slice.result.now c.edges_from-row.result.now c.args.tour.now.at t c.edges.ensures c.edges_from-row.ensures c.as_slice.ensures c.as_slice-2.ensures c.in-Some.i c.set.new.self c.in-Some.ensures c.set.ensures)

pub returns-in-None-clause-tour : goal.returns-in-None-clause-tour
returns-in-None-clause-tour c =
    IfOk-weaker c.retreat.result _ _
    (λ more h m f stop t. (rw c.edges-in-None.ensures at h) m c.args.machine.now.states f stop
    (λ p e g. (c.args.machine.now.formed.edge e (slice_get-contains c.args.machine.now.edges p e g)).from)
    (step-none c.args.machine.now.edges c.edges-in-None.result.now c.args.machine.now.states f stop c.args.tour.now.left c.args.tour.now.next c.args.tour.now.way c.args.tour.now.back c.as_slice-2.result.now c.as_slice.result.now c.edges_from-row.result.now c.args.tour.now.at t c.edges-in-None.ensures c.edges_from-row.ensures c.as_slice.ensures c.as_slice-2.ensures c.set-in-None.new.self _ c.in-None.ensures refl c.set-in-None.ensures))
    c.retreat.ensures.tour

pub returns-in-None-clause-ready : goal.returns-in-None-clause-ready
returns-in-None-clause-ready c =
    IfOk-weaker c.retreat.result _ _
    (λ more h m f stop t. (rw c.edges-in-None.ensures at h) m c.args.machine.now.states f stop
    (step-none c.args.machine.now.edges c.edges-in-None.result.now c.args.machine.now.states f stop c.args.tour.now.left c.args.tour.now.next c.args.tour.now.way c.args.tour.now.back c.as_slice-2.result.now c.as_slice.result.now c.edges_from-row.result.now c.args.tour.now.at t c.edges-in-None.ensures c.edges_from-row.ensures c.as_slice.ensures c.as_slice-2.ensures c.set-in-None.new.self _ c.in-None.ensures refl c.set-in-None.ensures))
    c.retreat.ensures.ready
