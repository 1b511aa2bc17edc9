use Rattle.std.proofs.Common.{◌∙◌, sym, subst}
use Rattle.std.specs.Int.{w128}
use Rattle.std.specs.Prelude.{All}
use Rattle.std.proofs.lemmas.Int.{to_z-of_z}
use Rattle.sv_linear.specs.declared.column.Column.TheVariants.{Unknown}
use Rattle.farkas_check.specs.Systems.{Constraint}
use Rattle.farkas_check.specs.Branches.{constraints_above}
use Rattle.farkas_check.specs.Leaves.{leaf_rows}
use Rattle.farkas_check.specs.Fitting.{IsMultipleAt}
use Rattle.farkas_check.proofs.Covering.{own_row, branch_row}
use Rattle.farkas_check.proofs.leaf.Leaf.are_multiples_in_row.Goals as goal

pub returns-then-place-rows-clause-forth : goal.returns-then-place-rows-clause-forth
returns-then-place-rows-clause-forth c = λ told.
    let above = constraints_above c.args.self.now.above.now in
    let own = own_row c.args.self.now.rows.now above c.args.row c.index-rows-place.result c.if-place-rows.true in
    let e = rw (to_z-of_z w128 c.args.divisor c.ranges.divisor, c.as_slice.ensures) at (c.are_multiples_in_terms.ensures.forth told) in
    subst (λ (w : Constraint). All (λ t. IsMultipleAt (leaf_rows c.args.self.now) c.args.self.now.multipliers.now c.args.divisor (Unknown t.0)) w.terms) (sym own) e

pub returns-then-place-rows-clause-back : goal.returns-then-place-rows-clause-back
returns-then-place-rows-clause-back c = λ h. (rw (to_z-of_z w128 c.args.divisor c.ranges.divisor) at c.are_multiples_in_terms.ensures.back) h

pub returns-in-Ok-clause-forth : goal.returns-in-Ok-clause-forth
returns-in-Ok-clause-forth c = λ told.
    let above = constraints_above c.args.self.now.above.now in
    let own = branch_row c.args.self.now.rows.now above c.args.row c.if-place-rows.false ∙ sym c.in-Ok.ensures.1 in
    let e = rw (to_z-of_z w128 c.args.divisor c.ranges.divisor) at (c.are_multiples_in_branch.ensures.forth told) in
    subst (λ (w : Constraint). All (λ t. IsMultipleAt (leaf_rows c.args.self.now) c.args.self.now.multipliers.now c.args.divisor (Unknown t.0)) w.terms) (sym own) e

pub returns-in-Ok-clause-back : goal.returns-in-Ok-clause-back
returns-in-Ok-clause-back c = λ h. (rw (to_z-of_z w128 c.args.divisor c.ranges.divisor) at c.are_multiples_in_branch.ensures.back) h
