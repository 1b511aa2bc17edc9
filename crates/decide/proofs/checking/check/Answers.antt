use Rattle.std.proofs.Common.{IsTrue, IfOk, List, sym, ap, ◌∙◌, subst}
use Rattle.std.specs.List.{AllByRecursion, list_all}
use Rattle.bool_cubes.specs.Cubes.{cubes_of}
use Rattle.bool_cubes.specs.Laws.{IsClearBool}
use Rattle.bool_cubes.specs.Past.{HasNoPast}
use Rattle.assertion_parts.specs.Constants.{has_words}
use Rattle.decide.specs.Verdicts.{RightVerdict, HasOnly}
use Rattle.decide.specs.Completeness.{IsComplete}
use Rattle.literal_forms.specs.declared.literal.Cube.{Cube}
use Rattle.decide.specs.Jobs.{IsAskedCube, IsFolded}
use Rattle.decide.proofs.Assertions.{all-asked, clear-sorted, laws-of, refused-at, refused-complete, refused-folded, refused-only, refused-right}
use Rattle.decide.proofs.Rightness.{right-of, complete-of, only-of, when-fold}
use Rattle.decide.proofs.checking.check.Goals as goal

pub with_few_left-requires : goal.with_few_left-requires
with_few_left-requires g c = subst (AllByRecursion IsClearBool) (sym (c.as_slice-2.ensures ∙ c.in_ok-clear.ensures)) (clear-sorted c.args.terms.now c.requires.sorted)

pub answer_all-requires-clause-asked : goal.answer_all-requires-clause-asked
answer_all-requires-clause-asked g c κs within =
    let first = c.as_slice.ensures ∙ c.in_ok-clear.ensures in
    let again = c.as_slice-2.ensures ∙ c.in_ok-clear.ensures in
    subst (AllByRecursion (IsAskedCube c.args.terms.now)) (sym (c.in-Ok.ensures.cubes ∙ ap cubes_of again))
    (all-asked c.literals_fit.ensures c.literals_pass.ensures c.literals_have_values.ensures c.transducers_are_bounded.ensures.formed c.args.terms.now c.requires.sorted c.requires.formed c.requires.sorts
    (subst (λ ts. IsTrue (list_all has_words ts)) first c.string_literals_are_words.ensures) (subst HasNoPast again c.in-Ok.ensures.refused.0))

pub returns-in-Ok-clause-right : goal.returns-in-Ok-clause-right
returns-in-Ok-clause-right g c =
    when-fold (RightVerdict c.args.terms.now) c.args.terms.now c.in-Ok.cubes c.answer_all.result (c.in-Ok.ensures.cubes ∙ ap cubes_of (c.as_slice-2.ensures ∙ c.in_ok-clear.ensures))
    (right-of c.args.terms.now (laws-of c.cubes_are_exact.ensures c.literals_have_values.ensures c.args.terms.now c.requires.sorted)) c.answer_all.ensures

pub returns-in-Ok-clause-complete : goal.returns-in-Ok-clause-complete
returns-in-Ok-clause-complete g c = λ must.
    when-fold (IsComplete c.args.terms.now) c.args.terms.now c.in-Ok.cubes c.answer_all.result (c.in-Ok.ensures.cubes ∙ ap cubes_of (c.as_slice-2.ensures ∙ c.in_ok-clear.ensures))
    (λ v. complete-of c.args.terms.now (laws-of c.cubes_are_exact.ensures c.literals_have_values.ensures c.args.terms.now c.requires.sorted) v must) c.answer_all.ensures

pub returns-in-Ok-clause-only : goal.returns-in-Ok-clause-only
returns-in-Ok-clause-only g c =
    when-fold (HasOnly c.args.terms.now) c.args.terms.now c.in-Ok.cubes c.answer_all.result (c.in-Ok.ensures.cubes ∙ ap cubes_of (c.as_slice-2.ensures ∙ c.in_ok-clear.ensures)) (only-of c.args.terms.now) c.answer_all.ensures

pub returns-clause-right : goal.returns-clause-right
returns-clause-right g c =
    let own = refused-at (List Cube) c.args.terms.now c.as_slice-2.result.now c.with_few_left.result c.in-Err.fault (c.as_slice-2.ensures ∙ c.in_ok-clear.ensures) c.in-Err.is c.with_few_left.ensures.refused in
    subst (λ r. IfOk r (RightVerdict c.args.terms.now)) (sym c.refusal_of.ensures) (refused-right (List Cube) c.args.terms.now c.in-Err.fault own)

pub returns-clause-complete : goal.returns-clause-complete
returns-clause-complete g c = λ must.
    let own = refused-at (List Cube) c.args.terms.now c.as_slice-2.result.now c.with_few_left.result c.in-Err.fault (c.as_slice-2.ensures ∙ c.in_ok-clear.ensures) c.in-Err.is c.with_few_left.ensures.refused in
    subst (λ r. IfOk r (IsComplete c.args.terms.now)) (sym c.refusal_of.ensures) (refused-complete (List Cube) c.args.terms.now c.in-Err.fault own must)

pub returns-clause-only : goal.returns-clause-only
returns-clause-only g c = subst (λ r. IfOk r (HasOnly c.args.terms.now)) (sym c.refusal_of.ensures) (refused-only c.args.terms.now c.in-Err.fault)

pub returns-clause-folded : goal.returns-clause-folded
returns-clause-folded g c = subst (λ r. IfOk r (IsFolded c.args.terms.now)) (sym c.refusal_of.ensures) (refused-folded c.args.terms.now c.in-Err.fault)

pub answer_all-requires-clause-sorted : goal.answer_all-requires-clause-sorted
answer_all-requires-clause-sorted g c κs within =
    subst (AllByRecursion IsClearBool) (sym (c.as_slice-in-Ok-2.ensures ∙ c.in_ok-clear.ensures)) (clear-sorted c.args.terms.now c.requires.sorted)
