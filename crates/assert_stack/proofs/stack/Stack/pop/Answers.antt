use Rattle.std.proofs.Common.{drop, ap, ◌∙◌}
use Rattle.std.proofs.lemmas.List.{drop-drop}
use Rattle.assert_stack.proofs.stack.Stack.pop.Goals as goal

pub loop-preserved : goal.loop-preserved
loop-preserved c = c.pop_one.ensures ∙ ap (drop 1) c.loop.invariant ∙ drop-drop 1 c.loop.counter c.args.self.now
