use Rattle.std.proofs.Common.{reverse, ap, sym, ◌∙◌}
use Rattle.assert_stack.specs.Levels.{named}
use Rattle.assert_stack.proofs.LevelLemmas.{names-at}
use Rattle.assert_stack.proofs.stack.Stack.named.Goals as goal

pub returns : goal.returns
returns c = let s = c.self.inside in c.as_slice.ensures ∙ sym (ap named (sym c.self.view_is) ∙ names-at (reverse s.marks) s.symbols s.live s.named c.self.invariant.0)
