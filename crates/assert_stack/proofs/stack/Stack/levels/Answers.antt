use Rattle.std.proofs.Common.{◌+◌, sym, ap, ◌∙◌}
use Rattle.assert_stack.proofs.LevelLemmas.{count-kept}
use Rattle.assert_stack.proofs.stack.Stack.levels.Goals as goal

pub returns-clause-count : goal.returns-clause-count
returns-clause-count c = let s = c.self.inside in ap (λ n. n + 1) c.len.ensures ∙ sym (count-kept s.marks s.symbols s.live s.named c.args.self.now c.self.view_is)
