use Rattle.std.proofs.Common.{◌≡◌, ◌<◌, length, get_or, replicate, subst, ap, ◌∙◌, arith}
use Rattle.sv_list.specs.Lists.{slice_get-read}
use Rattle.trim_search.specs.Incoming.{AreIncoming}
use Rattle.trim_search.proofs.RestLemmas.{incoming-none, incoming-pushed, read-in, edge-inside}
use Rattle.trim_search.proofs.rests.index_incoming.Goals as goal

pub loop-edge-init : goal.loop-edge-init
loop-edge-init c =
    rw (c.from_vec-before.ensures ∙ c.in_ok-room.ensures.items, c.in_ok-last.ensures ∙ ap (λ n. replicate n 0) c.states.ensures)
    (incoming-none c.args.machine.now.states c.args.machine.now.edges)

pub bounds-as_slice-to : goal.bounds-as_slice-to
bounds-as_slice-to c =
    let inside = edge-inside c.args.machine.now c.edges-edges.result.now c.loop-edge.edge-index c.edge-item.result c.edges-edges.ensures c.loop-edge-test.true c.edge-item.is in
    let rows = c.loop-edge.invariant.rows in
    rw c.as_slice.ensures (omega arith)

pub set-requires : goal.set-requires
set-requires c =
    let inside = edge-inside c.args.machine.now c.edges-edges.result.now c.loop-edge.edge-index c.edge-item.result c.edges-edges.ensures c.loop-edge-test.true c.edge-item.is in
    let rows = c.loop-edge.invariant.rows in
    omega arith

pub loop-edge-preserved : goal.loop-edge-preserved
loop-edge-preserved c =
    let m = c.args.machine.now in
    let i = c.loop-edge.edge-index in
    let d = c.edge-item.result in
    let inside = edge-inside m c.edges-edges.result.now i d c.edges-edges.ensures c.loop-edge-test.true c.edge-item.is in
    let rows = c.loop-edge.invariant.rows in
    incoming-pushed m.states m.edges i c.loop-edge.last c.loop-edge.before d (get_or c.as_slice.result.now d.to 0) c.loop-edge.invariant
    (slice_get-read m.edges c.edges-edges.result.now i d (subst (λ l. i < length l) c.edges-edges.ensures c.loop-edge-test.true) c.edges-edges.ensures c.edge-item.is) inside
    (read-in c.loop-edge.last c.as_slice.result.now d.to c.as_slice.ensures (omega arith)) c.set.new.self c.push.new.self c.len.result c.in_ok-push.ensures.ok c.len.ensures c.set.ensures

pub returns : goal.returns
returns c =
    let all = ap length c.edges-edges.ensures in
    let past = c.loop-edge-test.false in
    let within = c.loop-edge.auto.edge-index-end in
    let same : c.loop-edge.edge-index ≡ length c.args.machine.now.edges = omega arith in
    subst (λ n. AreIncoming c.args.machine.now.states c.args.machine.now.edges n c.loop-edge.last c.loop-edge.before) same c.loop-edge.invariant
