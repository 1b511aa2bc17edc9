use Rattle.transducer_form.specs.Written as w
use Rattle.transducer_form.proofs.Limits.{over-is}
use Rattle.std.proofs.Common.{length}
use Rattle.smt_names.specs.Shapes.{count-seen}
use Rattle.transducer_form.proofs.reading.build_over.Goals as goal

pub returns : goal.returns
returns c = over-is (w.description_seen c.args.description.now) c.args.states.now.keys (length c.args.description.now.states.now) c.in_ok-start.start c.in_ok-edges.edges c.in_ok-ends.ends (count-seen c.args.description.now.states.now) c.in_ok-start.ensures c.in_ok-edges.ensures c.in_ok-ends.ensures
