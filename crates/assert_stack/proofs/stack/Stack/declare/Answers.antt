use Rattle.std.proofs.Common.{◌≡◌, ◌∷◌, [], None, nat_eq, length, reverse, List, ap, sym, ◌∙◌, subst}
use Rattle.std.specs.Map.{lookup}
use Rattle.std.specs.Cmp.Lexicographic.{pointwise}
use Rattle.sv_list.specs.Lists.{OnOk-weaker}
use Rattle.assert_stack.specs.Levels.{Symbol, symbols_of, declared}
use Rattle.assert_stack.specs.Marks.{levels_at, AreMarks}
use Rattle.assert_stack.proofs.LevelLemmas.{symbols-at, declares, marks-declared, either_way}
use Rattle.assert_stack.proofs.stack.Stack.declare.Goals as goal

pub declare-requires : goal.declare-requires
declare-requires c =
    let s = c.self.inside in
    subst (λ (l : List Symbol). lookup (pointwise nat_eq c.args.name) l ≡ None) (ap symbols_of (sym c.self.view_is) ∙ symbols-at (reverse s.marks) s.symbols s.live s.named c.self.invariant.0) c.requires

pub invariant_of-self : goal.invariant_of-self
invariant_of-self c =
    let s = c.self.inside in (
      either_way (λ (l : List Symbol). AreMarks (reverse s.marks) (length l) (length s.live) (length s.named)) c.declare.result s.symbols c.declare.new.self ((c.args.name, c.args.entry) ∷ []) c.declare.ensures.ok c.declare.ensures.err c.self.invariant.0
          (marks-declared (reverse s.marks) s.symbols ((c.args.name, c.args.entry) ∷ []) (length s.live) (length s.named) c.self.invariant.0),
      c.self.invariant.1,
    )

pub returns-clause-ok : goal.returns-clause-ok
returns-clause-ok c =
    let s = c.self.inside in
    OnOk-weaker c.declare.result c.declare.ensures.ok (λ e. ap (λ (l : List Symbol). levels_at (reverse s.marks) l s.live s.named) e ∙ declares (reverse s.marks) c.args.name c.args.entry s.symbols s.live s.named c.self.invariant.0 ∙ ap (declared c.args.name c.args.entry) c.self.view_is)
