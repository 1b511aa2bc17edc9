use Rattle.transducer_core.proofs.BuiltLemmas.{stop_none, stop_some}
use Rattle.transducer_core.proofs.output_words.add_stop.Goals as goal

pub returns-else-ends-clause-ends : goal.returns-else-ends-clause-ends
returns-else-ends-clause-ends c = stop_none c.args.machine.now.ends c.args.state c.args.ends c.if-ends.false

pub returns-in_ok-add_end-clause-ends : goal.returns-in_ok-add_end-clause-ends
returns-in_ok-add_end-clause-ends c =
    stop_some c.args.machine.now.ends c.add_end.new.self.ends c.new.result c.args.state c.args.ends c.if-ends.true c.new.ensures c.in_ok-add_end.ensures.ok
