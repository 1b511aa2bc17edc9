use Rattle.transducer_core.proofs.LayerLemmas.{ends_rest}
use Rattle.transducer_core.proofs.finding.ends_here.Goals as goal

pub returns : goal.returns
returns c = ends_rest c.as_slice.result.now c.args.transducer.now.ends c.args.entry.now.state c.args.entry.now.done c.args.written.now c.may_end.result c.requires c.as_slice.ensures c.may_end.ensures
