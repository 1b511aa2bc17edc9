use Rattle.parikh_flow.proofs.ReadyLemmas.{system-within}
use Rattle.parikh_flow.proofs.laws.nets_are_within.Goals as goal

pub returns : goal.returns
returns c = λ integers registers rows reach is. system-within c.args.machines.now integers registers rows reach c.args.system.now is
