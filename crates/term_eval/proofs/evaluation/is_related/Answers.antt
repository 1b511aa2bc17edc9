use Rattle.std.proofs.Common.{◌∙◌}
use Rattle.term_eval.proofs.Evaluating.{run-relates}
use Rattle.term_eval.proofs.evaluation.is_related.Goals as goal

pub returns : goal.returns
returns c = c.is_some.ensures ∙ run-relates c.pairs_are_decided.ensures c.args.transducer.now c.args.read.now c.args.written.now c.pairs_are_runs.ensures.run c.in_ok-run_pair.field-0 c.in_ok-run_pair.ensures
