use Rattle.std.proofs.Common.{◌∙◌, ◌++◌, ◌^◌, ap, sym, subst}
use Rattle.sv_linear.specs.Terms.{AscendsWithin}
use Rattle.straight_line.specs.Columns.{chosen}
use Rattle.straight_line.proofs.Chosen.{chosen_all}
use Rattle.straight_line.proofs.renumbering.renumber.Goals as goal

pub add_terms-requires-2-clause-low : goal.add_terms-requires-2-clause-low
add_terms-requires-2-clause-low c =
    let a = subst (λ z. AscendsWithin 0 (2 ^ 32) z) (sym c.as_slice-terms.ensures) c.args.row.now.form.ascending in
    let e = c.in_ok-add_terms.ensures.added ∙ ap (λ z. z ++ chosen 0 c.args.integers.now c.as_slice-terms.result.now) c.of_constant-form.ensures.coefficients in
    subst (λ z. AscendsWithin 0 c.args.base z) (sym e) (chosen_all c.args.integers.now c.requires.integers_rise c.args.base c.requires.integers_within c.as_slice-terms.result.now a)
