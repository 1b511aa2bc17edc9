use Rattle.term_weight.proofs.Keeping.{kept-popped}
use Rattle.term_weight.proofs.summaries.Summaries.forget.Goals as goal

pub loop-self-preserved-in-loop-self : goal.loop-self-preserved-in-loop-self
loop-self-preserved-in-loop-self c = λ a. kept-popped c.args.symbols.now c.loop-self.self c.pop.new.self c.pop.result c.pop.ensures.rest (c.is_past.ensures c.loop-self-test.true) (c.loop-self.invariant a)

pub loop-self-preserved : goal.loop-self-preserved
loop-self-preserved c = λ a. kept-popped c.args.symbols.now c.loop-self.self c.pop.new.self c.pop.result c.pop.ensures.rest (c.is_past.ensures c.loop-self-test.true) (c.loop-self.invariant a)

pub loop-self-smaller : goal.loop-self-smaller
loop-self-smaller c = c.pop.ensures.fewer (c.is_past.ensures c.loop-self-test.true).some

pub loop-self-smaller-in-loop-self : goal.loop-self-smaller-in-loop-self
loop-self-smaller-in-loop-self c = c.pop.ensures.fewer (c.is_past.ensures c.loop-self-test.true).some
