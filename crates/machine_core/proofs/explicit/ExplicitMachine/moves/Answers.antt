use Rattle.std.proofs.Common.{ℕ, All, sym, subst}
use Rattle.sv_word.specs.Ranges.{IsInhabited}
use Rattle.std.proofs.lemmas.Result.{IfOk-weaker}
use Rattle.machine_core.specs.declared.machine.Move.{Move}
use Rattle.machine_core.specs.PlaceLaws.{places-within, pick-places}
use Rattle.machine_core.proofs.FoundLemmas.{moves-exact, moves-inhabited}
use Rattle.machine_core.proofs.explicit.ExplicitMachine.moves.Goals as goal

pub moves_of-requires : goal.moves_of-requires
moves_of-requires c = rw (c.edges_from.ensures, c.edges.ensures) (places-within (λ e. e.from) c.args.at.now c.args.self.now.edges)

pub returns-clause-exact : goal.returns-clause-exact
returns-clause-exact c =
    let e = rw (c.edges_from.ensures, c.edges.ensures, pick-places (λ e. e.from) c.args.at.now c.args.self.now.edges) at c.moves_of.ensures in
    IfOk-weaker c.moves_of.result _ _ (λ x h. rw h (moves-exact c.args.at.now c.args.self.now.edges)) e

pub returns-clause-inhabited : goal.returns-clause-inhabited
returns-clause-inhabited c =
    let e = rw (c.edges_from.ensures, c.edges.ensures, pick-places (λ e. e.from) c.args.at.now c.args.self.now.edges) at c.moves_of.ensures in
    IfOk-weaker c.moves_of.result _ _ (λ x h. subst (All (λ (m : Move ℕ). IsInhabited m.on)) (sym h)
    (moves-inhabited c.args.self.now.states c.args.self.now.registers c.args.self.now.edges c.args.self.now.ends c.args.self.now.formed c.args.at.now)) e
