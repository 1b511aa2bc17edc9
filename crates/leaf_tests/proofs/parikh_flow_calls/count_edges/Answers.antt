use Rattle.leaf_tests.proofs.ParikhFlowCounts.{twice-balances}
use Rattle.leaf_tests.proofs.parikh_flow_calls.count_edges.Goals as goal

pub run_of-requires-clause-balanced : goal.run_of-requires-clause-balanced
run_of-requires-clause-balanced c =
    let e = c.in_ok-machine.ensures in
    twice-balances c.in_ok-machine.machine e.sources e.targets e.ends
