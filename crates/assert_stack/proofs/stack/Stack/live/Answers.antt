use Rattle.std.proofs.Common.{reverse, ap, sym, ◌∙◌}
use Rattle.assert_stack.specs.Levels.{live}
use Rattle.assert_stack.proofs.LevelLemmas.{live-at}
use Rattle.assert_stack.proofs.stack.Stack.live.Goals as goal

pub returns : goal.returns
returns c = let s = c.self.inside in c.as_slice.ensures ∙ sym (ap live (sym c.self.view_is) ∙ live-at (reverse s.marks) s.symbols s.live s.named c.self.invariant.0)
