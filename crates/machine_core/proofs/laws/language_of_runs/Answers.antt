use Rattle.machine_core.specs.LanguageLaws.{runs_are_words, runs_width}
use Rattle.machine_core.specs.RunLaws.{run_accepted, accepted_run}
use Rattle.machine_core.proofs.laws.language_of_runs.Goals as goal

pub returns-clause-run : goal.returns-clause-run
returns-clause-run g c =
    let m = c.args.machine.now in
    run_accepted (g.M.Machine.steps_to m) (g.M.Machine.ends_with m) (g.M.Machine.first m)

pub returns-clause-pair : goal.returns-clause-pair
returns-clause-pair g c =
    let m = c.args.machine.now in
    accepted_run (g.M.Machine.steps_to m) (g.M.Machine.ends_with m) (g.M.Machine.first m)

pub returns-clause-word : goal.returns-clause-word
returns-clause-word g c word cost r =
    let m = c.args.machine.now in
    runs_are_words (g.M.Machine.is_state m) (g.M.Machine.steps_to m) (g.met.M.Machine.step_is_state m) (g.M.Machine.ends_with m)
    (g.met.M.Machine.step_character m) word (g.M.Machine.first m) cost (g.met.M.Machine.first_is_state m) r

pub returns-clause-width : goal.returns-clause-width
returns-clause-width g c word cost r =
    let m = c.args.machine.now in
    runs_width (g.M.Machine.is_state m) (g.M.Machine.steps_to m) (g.met.M.Machine.step_is_state m) (g.M.Machine.ends_with m) (g.M.Machine.width m)
    (λ s t x k h st. (g.met.M.Machine.step_cost m s t x k h st).entries) (λ s k h e. (g.met.M.Machine.end_cost m s k h e).entries)
    word (g.M.Machine.first m) cost (g.met.M.Machine.first_is_state m) r
