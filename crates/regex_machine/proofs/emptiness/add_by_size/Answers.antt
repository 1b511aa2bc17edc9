use Rattle.regex_machine.proofs.AntichainLemmas.{adds-through}
use Rattle.regex_machine.proofs.emptiness.add_by_size.Goals as goal

pub add_place-requires-clause-states : goal.add_place-requires-clause-states
add_place-requires-clause-states c = c.loop-number.invariant.states

pub loop-number-preserved-in-Continue-branch-2 : goal.loop-number-preserved-in-Continue-branch-2
loop-number-preserved-in-Continue-branch-2 c =
    let added = c.in_ok-add_place.ensures in
    record {
      next = tt;
      finite = tt;
      more = adds-through c.args.places.now c.loop-number.places c.add_place.new.places c.loop-number.invariant.more added.more;
      states = added.states;
    }

pub returns-clause-more : goal.returns-clause-more
returns-clause-more c = c.loop-number.invariant.more

pub returns-clause-states : goal.returns-clause-states
returns-clause-states c = c.loop-number.invariant.states
