use Rattle.machine_core.specs.EdgeLaws.{listed_runs, listed_paths, listed_top-within}
use Rattle.machine_core.proofs.laws.listed_costs_are_bounded.Goals as goal

pub returns-clause-runs : goal.returns-clause-runs
returns-clause-runs c =
    let m = c.args.machine.now in
    listed_runs m.states m.registers m.edges m.ends m.formed

pub returns-clause-paths : goal.returns-clause-paths
returns-clause-paths c =
    let m = c.args.machine.now in
    listed_paths m.states m.registers m.edges m.ends m.formed

pub returns-clause-top : goal.returns-clause-top
returns-clause-top c =
    let m = c.args.machine.now in
    listed_top-within m.states m.registers m.edges m.ends m.formed
