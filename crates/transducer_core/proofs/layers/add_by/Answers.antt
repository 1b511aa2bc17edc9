use Rattle.std.proofs.Common.{refl}
use Rattle.sv_list.specs.Lists.{slice_get-contains}
use Rattle.transducer_core.proofs.LayerLemmas.{part_listed, part_pushed}
use Rattle.transducer_core.proofs.layers.add_by.Goals as goal

pub done_after-requires : goal.done_after-requires
done_after-requires c = c.requires.done c.entry_at-from.result.now (slice_get-contains c.args.layer.now c.args.before c.entry_at-from.result.now c.entry_at-from.ensures)

pub returns-then-lists : goal.returns-then-lists
returns-then-lists c =
    part_listed c.args.transducer.now c.args.written.now c.args.c c.args.layer.now c.args.before c.args.place c.entry_at-from.result.now c.edge_at-edge.result.now c.args.next.now
    c.entry_at-from.ensures (rw c.as_slice.ensures at c.edge_at-edge.ensures) c.requires.part c.in-Some.done (rw c.in-Some.is at c.in_ok-done_after.ensures) (rw c.as_slice-in-Some.ensures at (c.lists.ensures c.if-lists.true))

pub returns-in_ok-push-in-Some : goal.returns-in_ok-push-in-Some
returns-in_ok-push-in-Some c =
    part_pushed c.args.transducer.now c.args.written.now c.args.c c.args.layer.now c.args.before c.args.place c.entry_at-from.result.now c.edge_at-edge.result.now c.args.next.now
    c.entry_at-from.ensures (rw c.as_slice.ensures at c.edge_at-edge.ensures) c.requires.part c.in-Some.done
    (record { state = c.edge_at-edge.result.now.to; done = c.in-Some.done; edge = c.args.place; before = c.args.before })
    c.push.new.self (rw c.in-Some.is at c.in_ok-done_after.ensures) refl refl refl refl c.in_ok-push-in-Some.ensures.ok
