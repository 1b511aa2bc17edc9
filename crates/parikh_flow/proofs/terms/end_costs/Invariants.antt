use Rattle.std.proofs.Common.{◌≡◌, ◌<◌, ◌^◌, All, map, take, slice_index}
use Rattle.parikh_flow.specs.Rows.{end_cost}
use Rattle.parikh_flow.proofs.terms.end_costs.Given as goal

abbrev pub invariant-loop-end : goal.invariant-loop-end
invariant-loop-end l = record {
  costs : l.costs ≡ map (end_cost l.register) (take l.end-index l.ends);
  fit : All (λ e. slice_index e.cost l.register < 2 ^ 64) (take l.end-index l.ends);
}
