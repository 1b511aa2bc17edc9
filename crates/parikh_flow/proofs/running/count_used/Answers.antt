use Rattle.parikh_flow.proofs.MarkLemmas.{used-found, above-zero}
use Rattle.parikh_flow.proofs.running.count_used.Goals as goal

pub returns-clause-used : goal.returns-clause-used
returns-clause-used c = λ k. used-found c.args.counts.now c.loop-i.i k c.loop-i.invariant.before c.loop-i.invariant.rest (above-zero _ c.loop-i-test.false)
