use Rattle.parikh_flow.proofs.EulerLemmas.{joined-flows}
use Rattle.parikh_flow.proofs.HitLemmas.{solution-counts, solution-hit}
use Rattle.parikh_flow.proofs.PointLemmas.{hit-solution}
use Rattle.std.proofs.Common.{◌+◌}
use Rattle.parikh_flow.proofs.laws.solutions_are_hits.Goals as goal

pub returns-clause-counts : goal.returns-clause-counts
returns-clause-counts c = λ integers registers rows reach x is solves. solution-counts c.args.machines.now integers registers rows reach c.args.system.now x is solves.meets solves.joins

pub returns-clause-flows : goal.returns-clause-flows
returns-clause-flows c = λ integers registers rows reach x is solves.
    joined-flows x (integers + registers) c.args.machines.now (solution-counts c.args.machines.now integers registers rows reach c.args.system.now x is solves.meets solves.joins)

pub returns-clause-hit : goal.returns-clause-hit
returns-clause-hit c = λ integers registers rows reach x runs is names same solves flows.
    solution-hit c.args.machines.now integers registers rows reach c.args.system.now x runs is names same solves flows

pub returns-clause-solution : goal.returns-clause-solution
returns-clause-solution c = λ registers rows reach runs numbers is names same hit short.
    hit-solution c.args.machines.now registers rows reach c.args.system.now runs numbers is names same hit short
