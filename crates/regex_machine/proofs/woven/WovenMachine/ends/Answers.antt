use Rattle.std.proofs.lemmas.Result.{IfOk-weaker}
use Rattle.sv_list.specs.Lists.{stands-at}
use Rattle.regex_machine.proofs.WovenLemmas.{woven-ends}
use Rattle.regex_machine.proofs.woven.WovenMachine.ends.Goals as goal

pub returns : goal.returns
returns c =
    let states = c.args.self.now.states.now in
    let o = c.index-states-at.result in
    let at = stands-at states c.args.at.now o c.requires c.index-states-at.is in
    IfOk-weaker c.ends_if.result _ _ (woven-ends states c.args.at.now o at) c.ends_if.ensures
