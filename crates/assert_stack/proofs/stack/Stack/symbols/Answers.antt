use Rattle.std.proofs.Common.{reverse, ap, sym, ◌∙◌}
use Rattle.assert_stack.specs.Levels.{symbols_of}
use Rattle.assert_stack.proofs.LevelLemmas.{symbols-at}
use Rattle.assert_stack.proofs.stack.Stack.symbols.Goals as goal

pub returns : goal.returns
returns c = let s = c.self.inside in sym (ap symbols_of (sym c.self.view_is) ∙ symbols-at (reverse s.marks) s.symbols s.live s.named c.self.invariant.0)
