use Rattle.transducer_core.proofs.BuiltLemmas.{step_added}
use Rattle.transducer_core.proofs.output_words.add_step.Goals as goal

pub returns-clause-steps : goal.returns-clause-steps
returns-clause-steps c =
    step_added c.args.machine.now.edges c.add_edge.new.self.edges c.in_ok-on.on c.new.result c.args.state c.args.c c.args.place c.in_ok-on.ensures.set c.new.ensures c.in_ok-add_edge.ensures.ok
