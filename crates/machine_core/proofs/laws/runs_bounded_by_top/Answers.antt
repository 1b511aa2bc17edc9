use Rattle.machine_core.specs.RunBounds.{runs_from_steps, paths_from_steps}
use Rattle.machine_core.proofs.laws.runs_bounded_by_top.Goals as goal

pub returns-clause-runs : goal.returns-clause-runs
returns-clause-runs g c register =
    let m = c.args.machine.now in
    runs_from_steps (g.M.Machine.is_state m) (g.M.Machine.steps_to m) register (g.M.Machine.top m) (g.met.M.Machine.step_is_state m)
    (λ s t x k h st. (g.met.M.Machine.step_cost m s t x k h st).below register)
    (g.M.Machine.ends_with m) (g.M.Machine.top m) (λ s k h e. (g.met.M.Machine.end_cost m s k h e).below register)

pub returns-clause-paths : goal.returns-clause-paths
returns-clause-paths g c register =
    let m = c.args.machine.now in
    paths_from_steps (g.M.Machine.is_state m) (g.M.Machine.steps_to m) register (g.M.Machine.top m) (g.met.M.Machine.step_is_state m)
    (λ s t x k h st. (g.met.M.Machine.step_cost m s t x k h st).below register) (g.M.Machine.width m)
