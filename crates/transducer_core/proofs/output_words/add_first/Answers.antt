use Rattle.transducer_core.proofs.NodeLemmas.{pushed_contains}
use Rattle.transducer_core.proofs.output_words.add_first.Goals as goal

pub returns-clause-firsts : goal.returns-clause-firsts
returns-clause-firsts c = pushed_contains c.args.node.now.firsts c.push.new.self (c.args.c, c.args.to) c.in_ok-push.ensures.ok
