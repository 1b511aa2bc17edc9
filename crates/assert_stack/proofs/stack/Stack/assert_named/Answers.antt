use Rattle.std.proofs.Common.{◌≡◌, ◌∷◌, [], ◌++◌, None, nat_eq, length, reverse, List, ap, sym, ◌∙◌, subst}
use Rattle.std.specs.Map.{lookup}
use Rattle.std.specs.Cmp.Lexicographic.{pointwise}
use Rattle.sv_terms.specs.declared.entry.Body.TheVariants as body
use Rattle.sv_terms.specs.declared.entry.Entry.TheVariants as entry
use Rattle.sv_terms.specs.declared.term.Term.{Term}
use Rattle.assert_stack.specs.Levels.{Symbol, NamedPlace, symbols_of}
use Rattle.assert_stack.specs.Marks.{AreMarks}
use Rattle.assert_stack.proofs.LevelLemmas.{symbols-at, asserts-named, marks-declared, marks-asserted, marks-named}
use Rattle.assert_stack.proofs.stack.Stack.assert_named.Goals as goal

pub declare-requires : goal.declare-requires
declare-requires c =
    let s = c.self.inside in
    subst (λ (l : List Symbol). lookup (pointwise nat_eq c.args.name) l ≡ None) (ap symbols_of (sym c.self.view_is) ∙ symbols-at (reverse s.marks) s.symbols s.live s.named c.self.invariant.0) c.requires

declares-macro : (c : goal.In-Ok) → c.declare.new.self ≡ c.self.inside.symbols ++ (c.args.name, entry.Macro [] (body.Term c.args.term)) ∷ []
declares-macro c =
    c.in_ok-declare.ensures.ok
    ∙ ap (λ ps. c.self.inside.symbols ++ (c.args.name, entry.Macro ps (body.Term c.in_ok-copy.field-0)) ∷ []) c.new.ensures
    ∙ ap (λ t. c.self.inside.symbols ++ (c.args.name, entry.Macro [] (body.Term t)) ∷ []) c.in_ok-copy.ensures

gets-name : (c : goal.In-Ok) → c.push_named.new.named ≡ c.self.inside.named ++ (c.args.name, length c.self.inside.live) ∷ []
gets-name c = c.in-Ok.ensures.named ∙ ap (λ n. c.self.inside.named ++ (n, length c.self.inside.live) ∷ []) c.in_ok-kept.ensures

pub invariant_of-self-in-Ok : goal.invariant_of-self-in-Ok
invariant_of-self-in-Ok c =
    let s = c.self.inside in
    let x : List Symbol = (c.args.name, entry.Macro [] (body.Term c.args.term)) ∷ [] in
    let one = marks-declared (reverse s.marks) s.symbols x (length s.live) (length s.named) c.self.invariant.0 in
    let two = marks-asserted (reverse s.marks) (length (s.symbols ++ x)) s.live (c.args.term ∷ []) (length s.named) one in
    let three = marks-named (reverse s.marks) (length (s.symbols ++ x)) (length (s.live ++ c.args.term ∷ [])) s.named ((c.args.name, length s.live) ∷ []) two in (
      subst (λ (l : List Symbol). AreMarks (reverse s.marks) (length l) (length c.push_named.new.live) (length c.push_named.new.named)) (sym (declares-macro c))
          (subst (λ (l : List Term). AreMarks (reverse s.marks) (length (s.symbols ++ x)) (length l) (length c.push_named.new.named)) (sym c.in-Ok.ensures.live)
          (subst (λ (l : List NamedPlace). AreMarks (reverse s.marks) (length (s.symbols ++ x)) (length (s.live ++ c.args.term ∷ [])) (length l)) (sym (gets-name c)) three)),
      c.self.invariant.1,
    )

pub returns-in-Ok-clause-ok : goal.returns-in-Ok-clause-ok
returns-in-Ok-clause-ok c =
    let s = c.self.inside in
    asserts-named (reverse s.marks) c.args.name c.args.term s.symbols c.declare.new.self s.live c.push_named.new.live s.named c.push_named.new.named c.args.self.now c.self.invariant.0 c.self.view_is (declares-macro c) c.in-Ok.ensures.live (gets-name c)
