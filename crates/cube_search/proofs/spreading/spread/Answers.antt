use Rattle.std.proofs.Common.{◌<◌, ◌≤◌, ◌+◌, ◌∙◌, sym, subst, ap, length, get_or, rules}
use Rattle.std.specs.Vec.Iter.{into_iter_items}
use Rattle.cube_search.proofs.SpreadLemmas.{IsUnderWay, begins, ends, goes-on}
use Rattle.cube_search.proofs.spreading.spread.Goals as goal

pub loop-machine-init : goal.loop-machine-init
loop-machine-init c = begins c.args.state.now.machines c.args.hit.runs (into_iter_items c.into_iter-left.result) c.new-spread.result c.requires (search rules) c.new-spread.ensures

pub loop-machine-preserved : goal.loop-machine-preserved
loop-machine-preserved c =
    let ms = c.args.state.now.machines in
    let l : c.loop-machine.machine-index < length c.args.state.now.machines = subst (λ xs. c.loop-machine.machine-index < length xs) c.as_slice-machine-items.ensures c.loop-machine-test.true in
    subst (IsUnderWay ms c.args.hit.runs (c.loop-machine.machine-index + 1) (into_iter_items c.next_run-run.new.left)) (sym c.in_ok-push.ensures.ok)
    (goes-on ms c.args.hit.runs c.loop-machine.machine-index (into_iter_items c.loop-machine.left) (into_iter_items c.next_run-run.new.left) c.loop-machine.spread c.machine-item.result c.next_run-run.result
    l (c.machine-item.is ∙ ap (λ xs. get_or xs c.loop-machine.machine-index c.machine-item.result) c.as_slice-machine-items.ensures) c.loop-machine.invariant c.next_run-run.ensures.carried c.next_run-run.ensures.standing)

pub returns-clause-runs : goal.returns-clause-runs
returns-clause-runs c =
    let ms = c.args.state.now.machines in
    ends ms c.args.hit.runs c.loop-machine.machine-index (into_iter_items c.loop-machine.left) (into_iter_items c.loop-machine.left) c.loop-machine.spread
    (subst (λ xs. length xs ≤ c.loop-machine.machine-index) c.as_slice-machine-items.ensures c.loop-machine-test.false) c.loop-machine.invariant
