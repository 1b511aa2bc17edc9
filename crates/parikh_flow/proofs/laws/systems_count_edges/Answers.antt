use Rattle.parikh_flow.proofs.EdgeCountLemmas.{edges-counted}
use Rattle.parikh_flow.proofs.laws.systems_count_edges.Goals as goal

pub returns : goal.returns
returns c = λ integers registers rows reach x is met. edges-counted c.args.machines.now integers registers rows reach c.args.system.now x is met
