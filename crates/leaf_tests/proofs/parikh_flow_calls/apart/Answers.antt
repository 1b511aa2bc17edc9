use Rattle.leaf_tests.proofs.ParikhFlowCounts.{apart-balances}
use Rattle.leaf_tests.proofs.parikh_flow_calls.apart.Goals as goal

pub run_of-requires-clause-balanced : goal.run_of-requires-clause-balanced
run_of-requires-clause-balanced c =
    let e = c.in_ok-machine.ensures in
    apart-balances c.in_ok-machine.machine e.sources e.targets e.ends
