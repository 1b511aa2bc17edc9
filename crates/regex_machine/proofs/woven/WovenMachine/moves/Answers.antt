use Rattle.std.proofs.lemmas.Result.{IfOk-weaker}
use Rattle.sv_list.specs.Lists.{stands-at}
use Rattle.regex_machine.proofs.WovenLemmas.{woven-inhabited, woven-moves}
use Rattle.regex_machine.proofs.woven.WovenMachine.moves.Goals as goal

pub returns-clause-inhabited : goal.returns-clause-inhabited
returns-clause-inhabited c =
    let states = c.args.self.now.states.now in
    let o = c.index-states-at.result in
    let at = stands-at states c.args.at.now o c.requires c.index-states-at.is in
    IfOk-weaker c.copy.result _ _ (woven-inhabited states c.args.self.now.closed c.args.at.now o at) c.copy.ensures

pub returns-clause-exact : goal.returns-clause-exact
returns-clause-exact c =
    let states = c.args.self.now.states.now in
    let o = c.index-states-at.result in
    let at = stands-at states c.args.at.now o c.requires c.index-states-at.is in
    IfOk-weaker c.copy.result _ _ (woven-moves states c.args.at.now o at) c.copy.ensures
