use Rattle.length_parts.proofs.RewriteLemmas.{both-rewritten, nothing-rewritten}
use Rattle.length_parts.proofs.rewriting.rewrite_all.Goals as goal

pub loop-at-init : goal.loop-at-init
loop-at-init c = nothing-rewritten c.args.flat

pub loop-at-preserved : goal.loop-at-preserved
loop-at-preserved c = both-rewritten c.args.flat c.loop-at.new c.in_ok-new.new c.loop-at.invariant c.in_ok-new.ensures
