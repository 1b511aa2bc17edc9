use Rattle.std.proofs.lemmas.Result.{IfOk-weaker}
use Rattle.machine_core.specs.PlaceLaws.{places-within, pick-places}
use Rattle.machine_core.proofs.FoundLemmas.{costs-exact}
use Rattle.machine_core.proofs.explicit.ExplicitMachine.ends.Goals as goal

pub costs_of-requires : goal.costs_of-requires
costs_of-requires c = rw (c.ends_at.ensures, c.finals.ensures) (places-within (λ e. e.at) c.args.at.now c.args.self.now.ends)

pub returns : goal.returns
returns c =
    let e = rw (c.ends_at.ensures, c.finals.ensures, pick-places (λ e. e.at) c.args.at.now c.args.self.now.ends) at c.costs_of.ensures in
    IfOk-weaker c.costs_of.result _ _ (λ x h. rw h (costs-exact c.args.at.now c.args.self.now.ends)) e
