use Rattle.subset_machine.proofs.LeavingLemmas.{legs-ranges}
use Rattle.subset_machine.proofs.leaving.push_legs.Goals as goal

pub returns-clause-ranges : goal.returns-clause-ranges
returns-clause-ranges c = legs-ranges c.args.edge.now c.as_slice-pair-items.ensures.apart

pub returns-in_err-push-clause-ranges : goal.returns-in_err-push-clause-ranges
returns-in_err-push-clause-ranges c = legs-ranges c.args.edge.now c.as_slice-pair-items.ensures.apart
