use Rattle.parikh_flow.proofs.EulerLemmas.{euler}
use Rattle.parikh_flow.proofs.RunLemmas.{goes-run}
use Rattle.parikh_flow.proofs.FlowLemmas.{run-flow, flow-balanced, flow-joined}
use Rattle.parikh_flow.proofs.HitLemmas.{flow-total}
use Rattle.parikh_flow.proofs.laws.runs_have_flows.Goals as goal

pub returns-clause-some : goal.returns-clause-some
returns-clause-some c = λ run r. run-flow c.args.machine.now run r

pub returns-clause-run : goal.returns-clause-run
returns-clause-run c = λ run f flow. goes-run c.args.machine.now run flow.places flow.last flow.goes

pub returns-clause-balanced : goal.returns-clause-balanced
returns-clause-balanced c = λ run f flow. flow-balanced c.args.machine.now run f flow

pub returns-clause-joined : goal.returns-clause-joined
returns-clause-joined c = λ run f flow. flow-joined c.args.machine.now run f flow

pub returns-clause-flow : goal.returns-clause-flow
returns-clause-flow c = λ f balanced joined. euler c.args.machine.now f balanced joined

pub returns-clause-total : goal.returns-clause-total
returns-clause-total c = λ run f flow. flow-total c.args.machine.now run f flow
