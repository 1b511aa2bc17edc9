use Rattle.std.proofs.Common.{◌≡◌, ℕ, ◌+◌, List, take, slice_get, Some, refl, sym, subst, arith}
use Rattle.std.specs.List.{AllZip}
use Rattle.machine_core.specs.declared.run.Run.{Run}
use Rattle.sv_list.specs.Lists.{slice_get-read}
use Rattle.trim_search.specs.Shortest.{IsShortestRun}
use Rattle.leaf_solve.proofs.RunLemmas.{zip-more, no-run}
use Rattle.leaf_solve.proofs.shortest.shortest_runs.Goals as goal

pub returns-in_default : goal.returns-in_default
returns-in_default c = (
  c.machine-item.result,
  subst (λ n. slice_get c.args.machines.now n ≡ Some c.machine-item.result) (sym c.loop-machine.invariant.place)
      (slice_get-read c.args.machines.now c.args.machines.now c.loop-machine.machine-index c.machine-item.result c.loop-machine-test.true refl c.machine-item.is),
  no-run c.machine-item.result (rw c.in_default.is at c.in_ok-run.ensures),
)

pub loop-machine-preserved : goal.loop-machine-preserved
loop-machine-preserved c = record {
  place = omega arith;
  runs = subst (λ (l : List (Run ℕ)). AllZip IsShortestRun (take (c.loop-machine.machine-index + 1) c.args.machines.now) l) (sym c.in_ok-push.ensures.ok)
      (zip-more IsShortestRun c.args.machines.now c.loop-machine.runs c.loop-machine.machine-index c.machine-item.result c.in-Some.run' c.loop-machine-test.true c.machine-item.is c.loop-machine.invariant.runs
      (rw c.in-Some.is at c.in_ok-run.ensures));
}
