use Rattle.std.proofs.Common.{◌++◌, sym, length, reverse, List, ap, ◌∙◌}
use Rattle.sv_list.specs.Lists.{OnOk-weaker}
use Rattle.sv_terms.specs.declared.term.Term.{Term}
use Rattle.assert_stack.specs.Levels.{asserted_all, live}
use Rattle.assert_stack.specs.Marks.{levels_at, AreMarks}
use Rattle.assert_stack.proofs.LevelLemmas.{asserts, live-at, marks-asserted, either_way}
use Rattle.assert_stack.proofs.stack.Stack.assert_all.Goals as goal

pub invariant_of-self : goal.invariant_of-self
invariant_of-self c =
    let s = c.self.inside in (
      either_way (λ (l : List Term). AreMarks (reverse s.marks) (length s.symbols) (length l) (length s.named)) c.append.result s.live c.append.new.self c.args.terms c.append.ensures.ok c.append.ensures.err c.self.invariant.0
          (marks-asserted (reverse s.marks) (length s.symbols) s.live c.args.terms (length s.named) c.self.invariant.0),
      c.self.invariant.1,
    )

pub returns-clause-ok : goal.returns-clause-ok
returns-clause-ok c =
    let s = c.self.inside in
    OnOk-weaker c.append.result c.append.ensures.ok (λ e. ap (λ (l : List Term). levels_at (reverse s.marks) s.symbols l s.named) e ∙ asserts (reverse s.marks) c.args.terms s.symbols s.live s.named c.self.invariant.0 ∙ ap (asserted_all c.args.terms) c.self.view_is)

pub returns-clause-live : goal.returns-clause-live
returns-clause-live c =
    let s = c.self.inside in
    OnOk-weaker c.append.result c.append.ensures.ok (λ e.
    ap (λ (l : List Term). live (levels_at (reverse s.marks) s.symbols l s.named)) e
    ∙ live-at (reverse s.marks) s.symbols (s.live ++ c.args.terms) s.named (marks-asserted (reverse s.marks) (length s.symbols) s.live c.args.terms (length s.named) c.self.invariant.0)
    ∙ ap (λ (l : List Term). l ++ c.args.terms) (sym (live-at (reverse s.marks) s.symbols s.live s.named c.self.invariant.0) ∙ ap live c.self.view_is))
