use Rattle.machine_core.specs.LanguageLaws.{reached_is_state}
use Rattle.machine_core.specs.RunLaws.{run_formed}
use Rattle.machine_core.proofs.laws.runs_are_formed.Goals as goal

pub returns-clause-states : goal.returns-clause-states
returns-clause-states g c run r =
    let m = c.args.machine.now in
    (run_formed (g.M.Machine.steps_to m) (g.M.Machine.is_state m) (g.M.Machine.width m) (g.met.M.Machine.step_is_state m)
    (λ s t x k h st. (g.met.M.Machine.step_cost m s t x k h st).entries) (g.M.Machine.ends_with m) (λ s k h e. (g.met.M.Machine.end_cost m s k h e).entries)
    (g.M.Machine.first m) (g.met.M.Machine.first_is_state m) run r).0

pub returns-clause-costs : goal.returns-clause-costs
returns-clause-costs g c run r =
    let m = c.args.machine.now in
    let formed = run_formed (g.M.Machine.steps_to m) (g.M.Machine.is_state m) (g.M.Machine.width m) (g.met.M.Machine.step_is_state m)
    (λ s t x k h st. (g.met.M.Machine.step_cost m s t x k h st).entries) (g.M.Machine.ends_with m) (λ s k h e. (g.met.M.Machine.end_cost m s k h e).entries)
    (g.M.Machine.first m) (g.met.M.Machine.first_is_state m) run r in
    (formed.1, formed.2)

pub returns-clause-reached : goal.returns-clause-reached
returns-clause-reached g c s r =
    let m = c.args.machine.now in
    reached_is_state (g.M.Machine.is_state m) (g.M.Machine.steps_to m) (g.met.M.Machine.step_is_state m) (g.M.Machine.first m)
    (g.met.M.Machine.first_is_state m) s r
