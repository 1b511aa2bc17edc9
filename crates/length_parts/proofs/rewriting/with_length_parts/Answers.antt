use Rattle.length_parts.proofs.RewriteLemmas.{both-rewritten}
use Rattle.length_parts.proofs.rewriting.with_length_parts.Goals as goal

pub returns-clause-rewriting : goal.returns-clause-rewriting
returns-clause-rewriting c = both-rewritten c.args.flat c.in_ok-rewritten.rewritten c.without_idle_registers-new.result c.in_ok-rewritten.ensures c.without_idle_registers-new.ensures.rewriting
