use Rattle.std.proofs.Common.{◌≡◌, ◌+◌, ◌-◌, List, length, reverse, ap, ◌∙◌}
use Rattle.sv_terms.specs.declared.term.Term.{Term}
use Rattle.assert_stack.specs.Levels.{dropped_last}
use Rattle.assert_stack.specs.Marks.{levels_at, outside}
use Rattle.assert_stack.proofs.LevelLemmas.{drops-last}
use Rattle.assert_stack.proofs.stack.Stack.drop_last.Goals as goal

pub returns : goal.returns
returns c =
    let s = c.self.inside in
    let outer : c.outside-outer.result ≡ outside (reverse s.marks) = c.outside-outer.ensures ∙ ap (λ m. outside (reverse m)) c.as_slice.ensures in
    ap (λ (l : List Term). levels_at (reverse s.marks) s.symbols l s.named) c.truncate.ensures
    ∙ drops-last (reverse s.marks) c.args.n (c.outside-outer.result + c.saturating_sub.result) s.symbols s.live s.named
    (ap (λ k. c.outside-outer.result + k) c.saturating_sub.ensures ∙ ap (λ k. c.outside-outer.result + (k - c.outside-outer.result - c.args.n)) c.len.ensures ∙ ap (λ o. o + (length s.live - o - c.args.n)) outer)
    ∙ ap (dropped_last c.args.n) c.self.view_is
