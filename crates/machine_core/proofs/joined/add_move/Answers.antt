use Rattle.std.proofs.Common.{ℕ, List, subst}
use Rattle.machine_core.specs.Joined.{IsLike}
use Rattle.machine_core.specs.declared.machine.Move.{Move}
use Rattle.machine_core.proofs.JoinedLemmas.{inhabited-push, moves-push}
use Rattle.machine_core.proofs.joined.add_move.Goals as goal

pub join_move-requires : goal.join_move-requires
join_move-requires c = record {
  like = subst (λ (l : List (Move ℕ)). IsLike l c.args.further c.in-Some.at) c.as_slice.ensures c.in-Some.ensures;
  old = c.requires.old;
}

pub returns-in-Some-clause-exact : goal.returns-in-Some-clause-exact
returns-in-Some-clause-exact c = c.join_move.ensures.exact

pub returns-in-Some-clause-inhabited : goal.returns-in-Some-clause-inhabited
returns-in-Some-clause-inhabited c = c.join_move.ensures.inhabited

pub returns-clause-exact : goal.returns-clause-exact
returns-clause-exact c = moves-push c.args.moves.now c.push.new.self c.args.further c.in_ok-push.ensures.ok

pub returns-clause-inhabited : goal.returns-clause-inhabited
returns-clause-inhabited c = inhabited-push c.args.moves.now c.push.new.self c.args.further c.in_ok-push.ensures.ok c.requires.old c.requires.inhabited
