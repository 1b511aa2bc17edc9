use Rattle.std.proofs.Common.{[], ap, sym, ◌≡◌, ◌∙◌, subst, Ok, Some}
use Rattle.sv_list.specs.Lists.{AllByRecursion-weaker}
use Rattle.std.proofs.lemmas.List.Elements.{recursion_from_All}
use Rattle.assert_stack.specs.Levels.{symbols_of}
use Rattle.sort_check.specs.Checking.{checked}
use Rattle.smt_names.specs.Form.{seen}
use Rattle.sort_check.specs.WellFormed.{IsAdded, IsTermOf}
use Rattle.sv_terms.specs.Sorting.{sort_of}
use Rattle.sv_terms.specs.declared.sort.Sort.TheVariants as sort
use Rattle.sv_terms.specs.declared.entry.Body.TheVariants as body
use Rattle.sv_terms.specs.declared.entry.Entry.TheVariants as entry
use Rattle.cube_table.proofs.script.Script.step.Goals as goal

pub declare-requires : goal.declare-requires
declare-requires c =
    subst (λ ls. IsAdded (symbols_of ls) c.in-Declare.name (entry.Constant c.in-Declare.sort)) c.self.view_is
    (c.additions_are_well_formed.ensures.declared (symbols_of c.self.inside.stack) (seen c.args.item.now) c.in-Declare.name c.in-Declare.sort c.self.invariant.formed
    (sym (ap (λ z. checked z (seen c.args.item.now)) c.symbols.ensures) ∙ c.in_ok-name.ensures ∙ ap Ok c.in-Declare.is))

pub declare-requires-in-Define : goal.declare-requires-in-Define
declare-requires-in-Define c =
    subst (λ ls. IsAdded (symbols_of ls) c.in-Define.name c.in-Define.entry) c.self.view_is
    (c.additions_are_well_formed.ensures.defined (symbols_of c.self.inside.stack) (seen c.args.item.now) c.in-Define.name c.in-Define.entry c.self.invariant.formed
    (sym (ap (λ z. checked z (seen c.args.item.now)) c.symbols.ensures) ∙ c.in_ok-name.ensures ∙ ap Ok c.in-Define.is))

pub assert_named-requires-clause-added : goal.assert_named-requires-clause-added
assert_named-requires-clause-added c =
    subst (λ ls. IsAdded (symbols_of ls) c.in-AssertNamed.name (entry.Macro [] (body.Term c.in-AssertNamed.term))) c.self.view_is
    (c.additions_are_well_formed.ensures.named (symbols_of c.self.inside.stack) (seen c.args.item.now) c.in-AssertNamed.name c.in-AssertNamed.term c.self.invariant.formed
    (sym (ap (λ z. checked z (seen c.args.item.now)) c.symbols.ensures) ∙ c.in_ok-name.ensures ∙ ap Ok c.in-AssertNamed.is))

pub assume-requires : goal.assume-requires
assume-requires c =
    let symbols = symbols_of c.self.inside.stack in
    AllByRecursion-weaker (IsTermOf symbols sort.Bool) (λ t. sort_of t ≡ Some sort.Bool) (λ t h. h.sorted) c.in-CheckAssuming.terms
    (recursion_from_All (IsTermOf symbols sort.Bool) c.in-CheckAssuming.terms
    (c.terms_are_sorted.ensures.assumed symbols (seen c.args.item.now) c.in-CheckAssuming.terms c.self.invariant.formed
    (sym (ap (λ z. checked z (seen c.args.item.now)) c.symbols.ensures) ∙ c.in_ok-name.ensures ∙ ap Ok c.in-CheckAssuming.is)))

pub assert_named-requires-clause-sorted : goal.assert_named-requires-clause-sorted
assert_named-requires-clause-sorted c =
    (c.terms_are_sorted.ensures.named (symbols_of c.self.inside.stack) (seen c.args.item.now) c.in-AssertNamed.name c.in-AssertNamed.term c.self.invariant.formed
    (sym (ap (λ z. checked z (seen c.args.item.now)) c.symbols.ensures) ∙ c.in_ok-name.ensures ∙ ap Ok c.in-AssertNamed.is)).sorted
