use Rattle.std.proofs.Common.{◌==◌, ◌≡◌, ◌∙◌, ◌<◌, ◌+◌, ◌-◌, List, [], ◌∷◌, ap, arith, drop, false, length, subst, sym, take, zero}
use Rattle.std.proofs.lemmas.Bool.Decides.{Decides-eqb}
use Rattle.sv_terms.specs.declared.op.Op.TheVariants as op
use Rattle.sv_terms.specs.declared.term.Term.TheVariants as term
use Rattle.bool_cubes.specs.Arguments.{formulas_of, parts_of}
use Rattle.bool_cubes.specs.Nodes.{IsPlanned}
use Rattle.bool_cubes.specs.Planned.{AreBooleanSides, AreNodePairs}
use Rattle.bool_cubes.specs.Trees.{applied, atom, chain, conjunction, disjunction, equal, exclusive, fixed, formula, implied, negated, neighbours, pairs}
use Rattle.literal_forms.specs.Shapes.{seen}
use Rattle.bool_cubes.proofs.Plans.{longer_trans, planned_trans, within_longer}
use Rattle.bool_cubes.proofs.Steps.{all_none, all_step, answered_as, any_none, any_step, atomic_atom, boolean_longer, choice_other, choice_three, equal_none, equal_step, exclusive_all, exclusive_first, exclusive_none, exclusive_step, formula_apply, formula_other, formula_truth, implied_last_one, implied_none, implied_step, not_one, not_other, order_chain, pairs_none, pairs_step, sides_step, side_left, side_right}
use Rattle.bool_cubes.proofs.Lists.{parts_formulas}
use Rattle.bool_cubes.proofs.planning.+planning.Goals as goal

pub all_sides-loop-i-preserved : goal.all_sides-loop-i-preserved
all_sides-loop-i-preserved t c =
    all_step c.args.plan.now.nodes c.loop-i.plan.nodes c.term_sides.new.plan.nodes c.and.new.self.nodes c.loop-i.all c.in_ok-next.next c.in_ok-all-2.all c.args.terms.now c.loop-i.i c.index-terms-i.result (omega arith) (omega arith) c.index-terms-i.is
    c.loop-i.invariant c.in_ok-next.ensures c.in_ok-all-2.ensures.formula

pub any_sides-loop-i-preserved : goal.any_sides-loop-i-preserved
any_sides-loop-i-preserved t c =
    any_step c.args.plan.now.nodes c.loop-i.plan.nodes c.term_sides.new.plan.nodes c.or.new.self.nodes c.loop-i.any c.in_ok-next.next c.in_ok-any-2.any c.args.terms.now c.loop-i.i c.index-terms-i.result (omega arith) (omega arith) c.index-terms-i.is
    c.loop-i.invariant c.in_ok-next.ensures c.in_ok-any-2.ensures.formula

pub choice_sides-returns-in_ok-second : goal.choice_sides-returns-in_ok-second
choice_sides-returns-in_ok-second t c =
    choice_three c.args.plan.now.nodes c.term_sides.new.plan.nodes c.term_sides-then-terms-eq3.new.plan.nodes c.term_sides-then-terms-eq3-2.new.plan.nodes c.choice.new.self.nodes c.in_ok-test.test c.in_ok-first.first c.in_ok-second.second c.choice.result
    c.args.terms.now c.args.term.now c.index-terms-0.result c.index-terms-1.result c.index-terms-2.result c.if-terms-eq3.true c.index-terms-0.is c.index-terms-1.is c.index-terms-2.is c.in_ok-test.ensures c.in_ok-first.ensures c.in_ok-second.ensures c.choice.ensures

pub choice_sides-returns-else-terms-eq3 : goal.choice_sides-returns-else-terms-eq3
choice_sides-returns-else-terms-eq3 t c =
    answered_as c.args.plan.now.nodes c.atom.new.self.nodes c.atom.result _ _ (choice_other c.args.terms.now c.args.term.now c.if-terms-eq3.false) c.atom.ensures

pub distinct_sides-loop-i-preserved : goal.distinct_sides-loop-i-preserved
distinct_sides-loop-i-preserved t c = record {
  planned =
      pairs_step c.args.plan.now.nodes c.loop-i.plan.nodes c.first_sides.new.plan.nodes c.loop-i.all c.in_ok-all-2.all c.args.terms.now c.loop-i.i (omega arith) (omega arith) c.loop-i.invariant.planned c.in_ok-all-2.ensures.formula;
  sides = boolean_longer c.loop-i.plan.nodes c.first_sides.new.plan.nodes c.args.terms.now c.as_slice-sides.result.now c.in_ok-all-2.ensures.longer c.loop-i.invariant.sides;
}

pub distinct_sides-returns : goal.distinct_sides-returns
distinct_sides-returns t c =
    let end : c.loop-i.i ≡ zero = omega arith in
    subst (λ n. IsPlanned c.args.plan.now.nodes c.loop-i.plan.nodes c.loop-i.all (conjunction (pairs (λ p q. negated (equal p q)) (parts_of (drop n c.args.terms.now))))) end c.loop-i.invariant.planned

pub equal_sides-loop-i-preserved : goal.equal_sides-loop-i-preserved
equal_sides-loop-i-preserved t c = record {
  planned =
      equal_step c.args.plan.now.nodes c.loop-i.plan.nodes c.pair_sides.new.plan.nodes c.and.new.self.nodes c.loop-i.all c.in_ok-next.next c.in_ok-all-2.all c.args.terms.now c.loop-i.i c.index-terms-i.result c.index-terms-i-in-loop-i.result
      (omega arith) (omega arith) c.index-terms-i.is c.index-terms-i-in-loop-i.is c.loop-i.invariant.planned c.in_ok-next.ensures c.in_ok-all-2.ensures.formula;
  sides = boolean_longer c.loop-i.plan.nodes c.and.new.self.nodes c.args.terms.now c.as_slice-sides.result.now (longer_trans c.loop-i.plan.nodes c.pair_sides.new.plan.nodes c.and.new.self.nodes c.in_ok-next.ensures.longer c.in_ok-all-2.ensures.longer) c.loop-i.invariant.sides;
}

pub equal_sides-returns : goal.equal_sides-returns
equal_sides-returns t c =
    let end : c.loop-i.i - 1 ≡ zero = omega arith in
    subst (λ n. IsPlanned c.args.plan.now.nodes c.loop-i.plan.nodes c.loop-i.all (conjunction (neighbours equal (parts_of (drop n c.args.terms.now))))) end c.loop-i.invariant.planned

pub exclusive_sides-loop-i-preserved : goal.exclusive_sides-loop-i-preserved
exclusive_sides-loop-i-preserved t c =
    exclusive_step c.args.plan.now.nodes c.loop-i.plan.nodes c.term_sides-in-loop-i.new.plan.nodes c.agreement.new.self.nodes c.loop-i.odd c.in_ok-next.next c.in_ok-agreement.field-0 c.negation-odd.result c.args.terms.now c.loop-i.i c.index-terms-i.result
    (omega arith) (omega arith) c.index-terms-i.is c.loop-i.invariant c.in_ok-next.ensures c.in_ok-agreement.ensures c.negation-odd.ensures.holding c.negation-odd.ensures.failing

pub implied_sides-loop-i-preserved : goal.implied_sides-loop-i-preserved
implied_sides-loop-i-preserved t c = record {
  bound = omega arith;
  planned =
      implied_step c.args.plan.now.nodes c.loop-i.plan.nodes c.term_sides-in-loop-i.new.plan.nodes c.implication.new.self.nodes c.loop-i.any c.in_ok-next.next c.in_ok-any-2.any c.args.terms.now c.loop-i.i c.index-terms-i.result
      (omega arith) (omega arith) c.index-terms-i.is c.loop-i.invariant.bound c.loop-i.invariant.planned c.in_ok-next.ensures c.in_ok-any-2.ensures;
}

pub opposite_sides-returns-else-terms-eq1 : goal.opposite_sides-returns-else-terms-eq1
opposite_sides-returns-else-terms-eq1 t c =
    answered_as c.args.plan.now.nodes c.atom.new.self.nodes c.atom.result _ _ (not_other c.args.terms.now c.args.term.now c.if-terms-eq1.false) c.atom.ensures

pub all_sides-loop-i-init : goal.all_sides-loop-i-init
all_sides-loop-i-init t c =
    all_none c.args.plan.now.nodes c.settle.new.self.nodes c.in_ok-all.all c.args.terms.now (length c.args.terms.now) (omega arith) c.in_ok-all.ensures

pub all_sides-and-requires-clause-plan : goal.all_sides-and-requires-clause-plan
all_sides-and-requires-clause-plan t c =
    c.in_ok-next.ensures.longer.plan

pub all_sides-and-requires-clause-left : goal.all_sides-and-requires-clause-left
all_sides-and-requires-clause-left t c =
    (c.in_ok-next.ensures.stands.holding, c.in_ok-next.ensures.stands.failing)

pub all_sides-and-requires-clause-right : goal.all_sides-and-requires-clause-right
all_sides-and-requires-clause-right t c =
    within_longer c.loop-i.plan.nodes c.term_sides.new.plan.nodes c.loop-i.all c.in_ok-next.ensures.longer (c.loop-i.invariant.stands.holding, c.loop-i.invariant.stands.failing)

pub all_sides-returns : goal.all_sides-returns
all_sides-returns t c =
    let end : c.loop-i.i ≡ zero = omega arith in
    subst (λ n. IsPlanned c.args.plan.now.nodes c.loop-i.plan.nodes c.loop-i.all (conjunction (formulas_of (drop n c.args.terms.now)))) end c.loop-i.invariant

pub any_sides-loop-i-init : goal.any_sides-loop-i-init
any_sides-loop-i-init t c =
    any_none c.args.plan.now.nodes c.settle.new.self.nodes c.in_ok-any.any c.args.terms.now (length c.args.terms.now) (omega arith) c.in_ok-any.ensures

pub any_sides-or-requires-clause-plan : goal.any_sides-or-requires-clause-plan
any_sides-or-requires-clause-plan t c =
    c.in_ok-next.ensures.longer.plan

pub any_sides-or-requires-clause-left : goal.any_sides-or-requires-clause-left
any_sides-or-requires-clause-left t c =
    (c.in_ok-next.ensures.stands.holding, c.in_ok-next.ensures.stands.failing)

pub any_sides-or-requires-clause-right : goal.any_sides-or-requires-clause-right
any_sides-or-requires-clause-right t c =
    within_longer c.loop-i.plan.nodes c.term_sides.new.plan.nodes c.loop-i.any c.in_ok-next.ensures.longer (c.loop-i.invariant.stands.holding, c.loop-i.invariant.stands.failing)

pub any_sides-returns : goal.any_sides-returns
any_sides-returns t c =
    let end : c.loop-i.i ≡ zero = omega arith in
    subst (λ n. IsPlanned c.args.plan.now.nodes c.loop-i.plan.nodes c.loop-i.any (disjunction (formulas_of (drop n c.args.terms.now)))) end c.loop-i.invariant

pub choice_sides-choice-requires-clause-plan : goal.choice_sides-choice-requires-clause-plan
choice_sides-choice-requires-clause-plan t c =
    c.in_ok-second.ensures.longer.plan

pub choice_sides-choice-requires-clause-second : goal.choice_sides-choice-requires-clause-second
choice_sides-choice-requires-clause-second t c =
    (c.in_ok-second.ensures.stands.holding, c.in_ok-second.ensures.stands.failing)

pub choice_sides-choice-requires-clause-first : goal.choice_sides-choice-requires-clause-first
choice_sides-choice-requires-clause-first t c =
    within_longer c.term_sides-then-terms-eq3.new.plan.nodes c.term_sides-then-terms-eq3-2.new.plan.nodes c.in_ok-first.first c.in_ok-second.ensures.longer (c.in_ok-first.ensures.stands.holding, c.in_ok-first.ensures.stands.failing)

pub choice_sides-choice-requires-clause-test : goal.choice_sides-choice-requires-clause-test
choice_sides-choice-requires-clause-test t c =
    within_longer c.term_sides.new.plan.nodes c.term_sides-then-terms-eq3-2.new.plan.nodes c.in_ok-test.test (longer_trans c.term_sides.new.plan.nodes c.term_sides-then-terms-eq3.new.plan.nodes c.term_sides-then-terms-eq3-2.new.plan.nodes c.in_ok-first.ensures.longer c.in_ok-second.ensures.longer) (c.in_ok-test.ensures.stands.holding, c.in_ok-test.ensures.stands.failing)

pub distinct_sides-first_sides-requires-clause-plan : goal.distinct_sides-first_sides-requires-clause-plan
distinct_sides-first_sides-requires-clause-plan t c =
    c.loop-i.invariant.planned.longer.plan

pub distinct_sides-first_sides-requires-clause-sides : goal.distinct_sides-first_sides-requires-clause-sides
distinct_sides-first_sides-requires-clause-sides t c =
    c.loop-i.invariant.sides

pub distinct_sides-first_sides-requires-clause-i : goal.distinct_sides-first_sides-requires-clause-i
distinct_sides-first_sides-requires-clause-i t c =
    omega arith

pub distinct_sides-first_sides-requires-clause-rest : goal.distinct_sides-first_sides-requires-clause-rest
distinct_sides-first_sides-requires-clause-rest t c =
    (c.loop-i.invariant.planned.stands.holding, c.loop-i.invariant.planned.stands.failing)

pub equal_sides-pair_sides-requires-clause-plan : goal.equal_sides-pair_sides-requires-clause-plan
equal_sides-pair_sides-requires-clause-plan t c =
    c.loop-i.invariant.planned.longer.plan

pub equal_sides-pair_sides-requires-clause-left : goal.equal_sides-pair_sides-requires-clause-left
equal_sides-pair_sides-requires-clause-left t c =
    side_left c.loop-i.plan.nodes c.args.terms.now c.as_slice-sides.result.now (c.loop-i.i - 1 - 1) c.index-terms-i.result c.loop-i.invariant.sides (omega arith) c.index-terms-i.is

pub equal_sides-pair_sides-requires-clause-right : goal.equal_sides-pair_sides-requires-clause-right
equal_sides-pair_sides-requires-clause-right t c =
    side_right c.loop-i.plan.nodes c.args.terms.now c.as_slice-sides.result.now (c.loop-i.i - 1 - 1) (c.loop-i.i - 1) c.index-terms-i.result c.index-terms-i-in-loop-i.result c.loop-i.invariant.sides (omega arith) c.index-terms-i.is (omega arith) c.index-terms-i-in-loop-i.is

pub equal_sides-and-requires-clause-plan : goal.equal_sides-and-requires-clause-plan
equal_sides-and-requires-clause-plan t c =
    c.in_ok-next.ensures.longer.plan

pub equal_sides-and-requires-clause-left : goal.equal_sides-and-requires-clause-left
equal_sides-and-requires-clause-left t c =
    (c.in_ok-next.ensures.stands.holding, c.in_ok-next.ensures.stands.failing)

pub equal_sides-and-requires-clause-right : goal.equal_sides-and-requires-clause-right
equal_sides-and-requires-clause-right t c =
    within_longer c.loop-i.plan.nodes c.pair_sides.new.plan.nodes c.loop-i.all c.in_ok-next.ensures.longer (c.loop-i.invariant.planned.stands.holding, c.loop-i.invariant.planned.stands.failing)

pub exclusive_sides-agreement-requires-clause-plan : goal.exclusive_sides-agreement-requires-clause-plan
exclusive_sides-agreement-requires-clause-plan t c =
    c.in_ok-next.ensures.longer.plan

pub exclusive_sides-agreement-requires-clause-left : goal.exclusive_sides-agreement-requires-clause-left
exclusive_sides-agreement-requires-clause-left t c =
    within_longer c.loop-i.plan.nodes c.term_sides-in-loop-i.new.plan.nodes c.loop-i.odd c.in_ok-next.ensures.longer (c.loop-i.invariant.stands.holding, c.loop-i.invariant.stands.failing)

pub exclusive_sides-agreement-requires-clause-right : goal.exclusive_sides-agreement-requires-clause-right
exclusive_sides-agreement-requires-clause-right t c =
    (c.in_ok-next.ensures.stands.holding, c.in_ok-next.ensures.stands.failing)

pub exclusive_sides-returns : goal.exclusive_sides-returns
exclusive_sides-returns t c =
    exclusive_all c.args.plan.now.nodes c.loop-i.plan.nodes c.loop-i.odd c.args.terms.now c.loop-i.i c.loop-i-test.false c.loop-i.invariant

pub exclusive_sides-returns-then-is_empty : goal.exclusive_sides-returns-then-is_empty
exclusive_sides-returns-then-is_empty t c =
    let none = (Decides-eqb (length c.args.terms.now) 0).0 (sym c.is_empty.ensures ∙ c.if-is_empty.true) in
    answered_as c.args.plan.now.nodes c.settle.new.self.nodes c.settle.result _ _ (exclusive_none c.args.terms.now none) c.settle.ensures

pub implied_sides-returns-then-is_empty : goal.implied_sides-returns-then-is_empty
implied_sides-returns-then-is_empty t c =
    let none = (Decides-eqb (length c.args.terms.now) 0).0 (sym c.is_empty.ensures ∙ c.if-is_empty.true) in
    answered_as c.args.plan.now.nodes c.settle.new.self.nodes c.settle.result _ _ (implied_none c.args.terms.now none) c.settle.ensures

pub implied_sides-implication-requires-clause-plan : goal.implied_sides-implication-requires-clause-plan
implied_sides-implication-requires-clause-plan t c =
    c.in_ok-next.ensures.longer.plan

pub implied_sides-implication-requires-clause-left : goal.implied_sides-implication-requires-clause-left
implied_sides-implication-requires-clause-left t c =
    (c.in_ok-next.ensures.stands.holding, c.in_ok-next.ensures.stands.failing)

pub implied_sides-implication-requires-clause-right : goal.implied_sides-implication-requires-clause-right
implied_sides-implication-requires-clause-right t c =
    within_longer c.loop-i.plan.nodes c.term_sides-in-loop-i.new.plan.nodes c.loop-i.any c.in_ok-next.ensures.longer (c.loop-i.invariant.planned.stands.holding, c.loop-i.invariant.planned.stands.failing)

pub implied_sides-returns : goal.implied_sides-returns
implied_sides-returns t c =
    let end : c.loop-i.i ≡ zero = omega arith in
    subst (λ n. IsPlanned c.args.plan.now.nodes c.loop-i.plan.nodes c.loop-i.any (implied (formulas_of (drop n c.args.terms.now)))) end c.loop-i.invariant.planned

pub opposite_sides-returns-in_ok-term_sides : goal.opposite_sides-returns-in_ok-term_sides
opposite_sides-returns-in_ok-term_sides t c =
    not_one c.args.plan.now.nodes c.term_sides.new.plan.nodes c.in_ok-term_sides.field-0 c.negation.result c.args.terms.now c.args.term.now c.index-terms-0.result c.if-terms-eq1.true c.index-terms-0.is c.in_ok-term_sides.ensures c.negation.ensures.holding c.negation.ensures.failing

pub applied_sides-returns-in-And : goal.applied_sides-returns-in-And
applied_sides-returns-in-And t c =
    answered_as c.args.plan.now.nodes c.all_sides.new.plan.nodes c.all_sides.result (conjunction (formulas_of c.args.terms.now)) (applied c.args.op (parts_of c.args.terms.now) c.args.term.now)
    (ap conjunction (sym (parts_formulas c.args.terms.now)) ∙ ap (λ o. applied o (parts_of c.args.terms.now) c.args.term.now) (sym c.in-And.is)) c.all_sides.ensures

pub applied_sides-returns-in-Or : goal.applied_sides-returns-in-Or
applied_sides-returns-in-Or t c =
    answered_as c.args.plan.now.nodes c.any_sides.new.plan.nodes c.any_sides.result (disjunction (formulas_of c.args.terms.now)) (applied c.args.op (parts_of c.args.terms.now) c.args.term.now)
    (ap disjunction (sym (parts_formulas c.args.terms.now)) ∙ ap (λ o. applied o (parts_of c.args.terms.now) c.args.term.now) (sym c.in-Or.is)) c.any_sides.ensures

pub applied_sides-returns-in-Xor : goal.applied_sides-returns-in-Xor
applied_sides-returns-in-Xor t c =
    answered_as c.args.plan.now.nodes c.exclusive_sides.new.plan.nodes c.exclusive_sides.result (exclusive (formulas_of c.args.terms.now)) (applied c.args.op (parts_of c.args.terms.now) c.args.term.now)
    (ap exclusive (sym (parts_formulas c.args.terms.now)) ∙ ap (λ o. applied o (parts_of c.args.terms.now) c.args.term.now) (sym c.in-Xor.is)) c.exclusive_sides.ensures

pub applied_sides-returns-in-Implies : goal.applied_sides-returns-in-Implies
applied_sides-returns-in-Implies t c =
    answered_as c.args.plan.now.nodes c.implied_sides.new.plan.nodes c.implied_sides.result (implied (formulas_of c.args.terms.now)) (applied c.args.op (parts_of c.args.terms.now) c.args.term.now)
    (ap implied (sym (parts_formulas c.args.terms.now)) ∙ ap (λ o. applied o (parts_of c.args.terms.now) c.args.term.now) (sym c.in-Implies.is)) c.implied_sides.ensures

pub applied_sides-returns-in-Not : goal.applied_sides-returns-in-Not
applied_sides-returns-in-Not t c =
    answered_as c.args.plan.now.nodes c.opposite_sides.new.plan.nodes c.opposite_sides.result (applied op.Not (parts_of c.args.terms.now) c.args.term.now) (applied c.args.op (parts_of c.args.terms.now) c.args.term.now)
    (ap (λ o. applied o (parts_of c.args.terms.now) c.args.term.now) (sym c.in-Not.is)) c.opposite_sides.ensures

pub applied_sides-returns-in-Equal : goal.applied_sides-returns-in-Equal
applied_sides-returns-in-Equal t c =
    answered_as c.args.plan.now.nodes c.equal_sides.new.plan.nodes c.equal_sides.result (applied op.Equal (parts_of c.args.terms.now) c.args.term.now) (applied c.args.op (parts_of c.args.terms.now) c.args.term.now)
    (ap (λ o. applied o (parts_of c.args.terms.now) c.args.term.now) (sym c.in-Equal.is)) c.equal_sides.ensures

pub applied_sides-returns-in-Distinct : goal.applied_sides-returns-in-Distinct
applied_sides-returns-in-Distinct t c =
    answered_as c.args.plan.now.nodes c.distinct_sides.new.plan.nodes c.distinct_sides.result (applied op.Distinct (parts_of c.args.terms.now) c.args.term.now) (applied c.args.op (parts_of c.args.terms.now) c.args.term.now)
    (ap (λ o. applied o (parts_of c.args.terms.now) c.args.term.now) (sym c.in-Distinct.is)) c.distinct_sides.ensures

pub applied_sides-returns-in-IfThenElse : goal.applied_sides-returns-in-IfThenElse
applied_sides-returns-in-IfThenElse t c =
    answered_as c.args.plan.now.nodes c.choice_sides.new.plan.nodes c.choice_sides.result (applied op.IfThenElse (parts_of c.args.terms.now) c.args.term.now) (applied c.args.op (parts_of c.args.terms.now) c.args.term.now)
    (ap (λ o. applied o (parts_of c.args.terms.now) c.args.term.now) (sym c.in-IfThenElse.is)) c.choice_sides.ensures

pub term_sides-returns-in-Truth : goal.term_sides-returns-in-Truth
term_sides-returns-in-Truth t c =
    answered_as c.args.plan.now.nodes c.settle.new.self.nodes c.settle.result (fixed c.in-Truth.b) (formula (seen c.args.term.now))
    (formula_truth c.args.term.now c.in-Truth.b c.in-Truth.is) c.settle.ensures

pub term_sides-returns-in-Apply : goal.term_sides-returns-in-Apply
term_sides-returns-in-Apply t c =
    answered_as c.args.plan.now.nodes c.applied_sides.new.plan.nodes c.applied_sides.result (applied c.in-Apply.op (parts_of c.as_slice.result.now) c.args.term.now) (formula (seen c.args.term.now))
    (formula_apply c.args.term.now c.in-Apply.op c.as_slice.result.now (c.in-Apply.is ∙ ap (term.Apply c.in-Apply.op) (sym c.as_slice.ensures))) c.applied_sides.ensures

pub term_sides-returns-in_default : goal.term_sides-returns-in_default
term_sides-returns-in_default t c =
    answered_as c.args.plan.now.nodes c.atom.new.self.nodes c.atom.result (atom c.args.term.now) (formula (seen c.args.term.now))
    (formula_other c.args.term.now c.in_default.not-Truth c.in_default.not-Apply) c.atom.ensures

pub applied_sides-returns-in-LessEqual : goal.applied_sides-returns-in-LessEqual
applied_sides-returns-in-LessEqual t c =
    answered_as c.args.plan.now.nodes c.chain_sides.new.plan.nodes c.chain_sides.result (chain c.args.op (parts_of c.args.terms.now)) (applied c.args.op (parts_of c.args.terms.now) c.args.term.now)
    (order_chain c.args.op (parts_of c.args.terms.now) c.args.term.now c.in-LessEqual.is) c.chain_sides.ensures

pub applied_sides-returns-in-Add : goal.applied_sides-returns-in-Add
applied_sides-returns-in-Add t c =
    answered_as c.args.plan.now.nodes c.atom.new.self.nodes c.atom.result (atom c.args.term.now) (applied c.args.op (parts_of c.args.terms.now) c.args.term.now)
    (atomic_atom c.args.op (parts_of c.args.terms.now) c.args.term.now c.in-Add.is) c.atom.ensures

some_there : {X : Type 0} (xs : List X) → (length xs == 0) ≡ false → 0 < length xs
some_there [] h = absurd (cc)
some_there (x ∷ xs) h = omega arith

pub exclusive_sides-loop-i-init : goal.exclusive_sides-loop-i-init
exclusive_sides-loop-i-init t c =
    exclusive_first c.args.plan.now.nodes c.term_sides.new.plan.nodes c.in_ok-odd.odd c.args.terms.now c.index-terms-0.result (some_there c.args.terms.now (sym c.is_empty.ensures ∙ c.if-is_empty.false)) c.index-terms-0.is c.in_ok-odd.ensures

pub implied_sides-loop-i-init : goal.implied_sides-loop-i-init
implied_sides-loop-i-init t c =
    let some : 0 < length c.args.terms.now = some_there c.args.terms.now (sym c.is_empty.ensures ∙ c.if-is_empty.false) in
    record {
      bound = omega arith;
      planned = implied_last_one c.args.plan.now.nodes c.term_sides.new.plan.nodes c.in_ok-any.any c.args.terms.now (length c.args.terms.now - 1) c.index-terms-last.result (omega arith) c.index-terms-last.is c.in_ok-any.ensures;
    }

pub equal_sides-loop-i-init : goal.equal_sides-loop-i-init
equal_sides-loop-i-init t c = record {
  planned =
      planned_trans c.args.plan.now.nodes c.boolean_sides.new.plan.nodes c.settle.new.self.nodes c.in_ok-all.all _ c.in_ok-known.ensures.longer
      (equal_none c.boolean_sides.new.plan.nodes c.settle.new.self.nodes c.in_ok-all.all c.args.terms.now (length c.args.terms.now) (omega arith) c.in_ok-all.ensures);
  sides = boolean_longer c.boolean_sides.new.plan.nodes c.settle.new.self.nodes c.args.terms.now c.as_slice-sides.result.now c.in_ok-all.ensures.longer (subst (AreBooleanSides c.boolean_sides.new.plan.nodes c.args.terms.now) (sym c.as_slice-sides.ensures) c.in_ok-known.ensures.sides);
}

pub distinct_sides-loop-i-init : goal.distinct_sides-loop-i-init
distinct_sides-loop-i-init t c = record {
  planned =
      planned_trans c.args.plan.now.nodes c.boolean_sides.new.plan.nodes c.settle.new.self.nodes c.in_ok-all.all _ c.in_ok-known.ensures.longer
      (pairs_none c.boolean_sides.new.plan.nodes c.settle.new.self.nodes c.in_ok-all.all c.args.terms.now (length c.args.terms.now) (omega arith) c.in_ok-all.ensures);
  sides = boolean_longer c.boolean_sides.new.plan.nodes c.settle.new.self.nodes c.args.terms.now c.as_slice-sides.result.now c.in_ok-all.ensures.longer (subst (AreBooleanSides c.boolean_sides.new.plan.nodes c.args.terms.now) (sym c.as_slice-sides.ensures) c.in_ok-known.ensures.sides);
}

pub boolean_sides-loop-term-preserved : goal.boolean_sides-loop-term-preserved
boolean_sides-loop-term-preserved t c = record {
  longer = longer_trans c.args.plan.now.nodes c.loop-term.plan.nodes c.term_sides.new.plan.nodes c.loop-term.invariant.longer c.in_ok-term_sides.ensures.longer;
  sides =
      subst (AreNodePairs c.term_sides.new.plan.nodes (take (c.loop-term.term-index + 1) c.args.terms.now)) (sym c.in_ok-push.ensures.ok)
      (sides_step c.loop-term.plan.nodes c.term_sides.new.plan.nodes c.args.terms.now c.loop-term.all c.in_ok-term_sides.field-0 c.loop-term.term-index c.term-item.result c.in_ok-term_sides.ensures.longer c.loop-term-test.true c.term-item.is
      c.loop-term.invariant.sides c.in_ok-term_sides.ensures.stands);
}
