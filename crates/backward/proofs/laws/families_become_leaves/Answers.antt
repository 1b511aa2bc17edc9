use Rattle.backward.proofs.LeafLemmas.{is-leaf}
use Rattle.backward.proofs.laws.families_become_leaves.Goals as goal

pub returns : goal.returns
returns c flat ns straight whole state less = is-leaf c.states_are_solved.ensures.solved c.states_are_solved.ensures.bounded flat straight whole c.args.state.now state ns less
