use Rattle.std.proofs.Common.{◌∙◌, length, ap, arith}
use Rattle.farkas_check.specs.Cuts.{values_of}
use Rattle.parikh_flow.proofs.ReachLemmas.{left-all, left-read, edge-within}
use Rattle.parikh_flow.proofs.reaching.unreached_states.Goals as goal

pub returns : goal.returns
returns c =
    left-all (values_of c.args.point.now) c.args.net.now c.in_ok-seen.seen c.in_ok-set.set c.in_ok-set.ensures.ascending c.in_ok-seen.ensures.exact
    (λ p e g. (edge-within _ c.args.net.now p e c.requires.within g).1)
    (left-read c.in_ok-seen.seen c.as_slice-3.result.now c.in_ok-set.set c.args.net.now.states c.as_slice-3.ensures c.in_ok-set.ensures.members)
    (rw (c.as_slice.ensures, c.as_slice-2.ensures) at c.is_joined.ensures.left c.if-is_joined.false)

pub reached_states-requires : goal.reached_states-requires
reached_states-requires c = c.requires.within

pub is_joined-requires-clause-unknowns : goal.is_joined-requires-clause-unknowns
is_joined-requires-clause-unknowns c = λ p e g. (edge-within _ c.args.net.now p e c.requires.within (rw c.as_slice.ensures at g)).0

pub is_joined-requires-clause-states : goal.is_joined-requires-clause-states
is_joined-requires-clause-states c = λ p e g.
    let from = (edge-within _ c.args.net.now p e c.requires.within (rw c.as_slice.ensures at g)).1 in
    let size = ap length c.as_slice-2.ensures ∙ c.in_ok-seen.ensures.size in
    omega arith

pub unmarked_states-requires : goal.unmarked_states-requires
unmarked_states-requires c = ap length c.as_slice-3.ensures ∙ c.in_ok-seen.ensures.size
