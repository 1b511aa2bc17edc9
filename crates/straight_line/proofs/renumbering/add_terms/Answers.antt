use Rattle.std.proofs.Common.{◌∙◌, ◌+◌, ◌++◌, ap, sym, subst, pos, take, get_or, append_assoc, [], None, ◌^◌, rules}
use Rattle.std.specs.Int.{w128}
use Rattle.std.proofs.lemmas.Int.{to_z-of_z}
use mir.Val.{SFits, to_z, of_z}
use Rattle.sv_linear.specs.Terms.{AscendsWithin}
use Rattle.straight_line.specs.Columns.{chosen, with_term}
use Rattle.straight_line.proofs.Chosen.{chosen_below, chosen_more, term_not_zero}
use Rattle.straight_line.proofs.renumbering.add_terms.Goals as goal

pub add_term-requires-clause-last : goal.add_term-requires-clause-last
add_term-requires-clause-last c = λ k e. subst (λ z. AscendsWithin 0 (c.args.base + k) z) (sym c.loop-unknown.invariant.1) (chosen_below c.args.base c.args.numbers.now c.requires.rising c.args.form.now.coefficients c.args.terms.now c.loop-unknown.unknown-index k (0, pos 0) c.requires.low c.requires.terms c.loop-unknown-test.true (sym c.number_at-number.ensures ∙ e))

pub add_term-requires-clause-not_zero : goal.add_term-requires-clause-not_zero
add_term-requires-clause-not_zero c =
    let f : SFits w128 (get_or c.args.terms.now c.loop-unknown.unknown-index (0, pos 0)).1 = search rules in
    λ e. term_not_zero 0 (2 ^ 32) c.args.terms.now c.loop-unknown.unknown-index (0, pos 0) c.requires.terms c.loop-unknown-test.true (sym (to_z-of_z w128 (get_or c.args.terms.now c.loop-unknown.unknown-index (0, pos 0)).1 f) ∙ e)

pub loop-unknown-preserved : goal.loop-unknown-preserved
loop-unknown-preserved c =
    let f : SFits w128 (get_or c.args.terms.now c.loop-unknown.unknown-index (0, pos 0)).1 = search rules in (
      c.add_term.ensures.constant ∙ c.loop-unknown.invariant.0,
      c.in_ok-add_term.ensures.added
          ∙ ap (λ n. c.loop-unknown.form.coefficients ++ with_term c.args.base n (to_z w128 (of_z w128 (get_or c.args.terms.now c.loop-unknown.unknown-index (0, pos 0)).1)) []) c.number_at-number.ensures
          ∙ ap (λ z. c.loop-unknown.form.coefficients ++ with_term c.args.base (get_or c.args.numbers.now (get_or c.args.terms.now c.loop-unknown.unknown-index (0, pos 0)).0 None) z []) (to_z-of_z w128 (get_or c.args.terms.now c.loop-unknown.unknown-index (0, pos 0)).1 f)
          ∙ ap (λ z. z ++ with_term c.args.base (get_or c.args.numbers.now (get_or c.args.terms.now c.loop-unknown.unknown-index (0, pos 0)).0 None) (get_or c.args.terms.now c.loop-unknown.unknown-index (0, pos 0)).1 []) c.loop-unknown.invariant.1
          ∙ append_assoc c.args.form.now.coefficients (chosen c.args.base c.args.numbers.now (take c.loop-unknown.unknown-index c.args.terms.now)) (with_term c.args.base (get_or c.args.numbers.now (get_or c.args.terms.now c.loop-unknown.unknown-index (0, pos 0)).0 None) (get_or c.args.terms.now c.loop-unknown.unknown-index (0, pos 0)).1 [])
          ∙ ap (λ z. c.args.form.now.coefficients ++ z) (sym (chosen_more c.args.base c.args.numbers.now c.requires.rising c.args.terms.now c.loop-unknown.unknown-index (0, pos 0) c.loop-unknown-test.true)),
    )
