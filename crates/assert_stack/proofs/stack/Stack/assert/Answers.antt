use Rattle.std.proofs.Common.{◌∷◌, [], length, reverse, List, ap, ◌∙◌}
use Rattle.sv_list.specs.Lists.{OnOk-weaker}
use Rattle.sv_terms.specs.declared.term.Term.{Term}
use Rattle.assert_stack.specs.Levels.{asserted}
use Rattle.assert_stack.specs.Marks.{levels_at, AreMarks}
use Rattle.assert_stack.proofs.LevelLemmas.{asserts, marks-asserted, either_way}
use Rattle.assert_stack.proofs.stack.Stack.assert.Goals as goal

pub invariant_of-self : goal.invariant_of-self
invariant_of-self c =
    let s = c.self.inside in (
      either_way (λ (l : List Term). AreMarks (reverse s.marks) (length s.symbols) (length l) (length s.named)) c.push.result s.live c.push.new.self (c.args.term ∷ []) c.push.ensures.ok c.push.ensures.err c.self.invariant.0
          (marks-asserted (reverse s.marks) (length s.symbols) s.live (c.args.term ∷ []) (length s.named) c.self.invariant.0),
      c.self.invariant.1,
    )

pub returns-clause-ok : goal.returns-clause-ok
returns-clause-ok c =
    let s = c.self.inside in
    OnOk-weaker c.push.result c.push.ensures.ok (λ e. ap (λ (l : List Term). levels_at (reverse s.marks) s.symbols l s.named) e ∙ asserts (reverse s.marks) (c.args.term ∷ []) s.symbols s.live s.named c.self.invariant.0 ∙ ap (asserted c.args.term) c.self.view_is)
