use Rattle.std.proofs.Common.{ℕ, pos, negsuc, sym, subst}
use Rattle.std.specs.Int.{w128}
use Rattle.std.specs.Prelude.{All}
use Rattle.std.proofs.lemmas.Int.{to_z-of_z}
use Rattle.sv_linear.specs.declared.column.Column.TheVariants.{Unknown}
use Rattle.farkas_check.specs.Branches.{constraint_of_branch}
use Rattle.farkas_check.specs.Leaves.{leaf_rows}
use Rattle.farkas_check.specs.Fitting.{IsMultipleAt}
use Rattle.farkas_check.specs.declared.branch.Branch.{Branch}
use Rattle.farkas_check.proofs.Covering.{out_named, in_named}
use Rattle.farkas_check.proofs.leaf.Leaf.are_multiples_in_branch.Goals as goal

pub returns-in-AtMost-clause-back : goal.returns-in-AtMost-clause-back
returns-in-AtMost-clause-back c = λ h.
    let e = rw (to_z-of_z w128 c.args.divisor c.ranges.divisor) at c.is_multiple_at.ensures in e.1 (h c.in-AtMost.unknown)

pub returns-in-AtLeast-clause-back : goal.returns-in-AtLeast-clause-back
returns-in-AtLeast-clause-back c = λ h.
    let e = rw (to_z-of_z w128 c.args.divisor c.ranges.divisor) at c.is_multiple_at-in-AtLeast.ensures in e.1 (h c.in-AtLeast.unknown)

pub returns-in-NoneOut-clause-forth : goal.returns-in-NoneOut-clause-forth
returns-in-NoneOut-clause-forth c = λ told.
    let e = rw (to_z-of_z w128 c.args.divisor c.ranges.divisor, c.as_slice.ensures) at (c.are_multiples_in_edges.ensures.forth told) in
    let P : ℕ → Type 0 = λ u. IsMultipleAt (leaf_rows c.args.self.now) c.args.self.now.multipliers.now c.args.divisor (Unknown u) in
    subst (λ (b : Branch). All (λ t. P t.0) (constraint_of_branch b).terms) (sym c.in-NoneOut.is) (out_named P c.in-NoneOut.set.now c.in-NoneOut.net.now.edges (pos 1) e)

pub returns-in-NoneOut-clause-back : goal.returns-in-NoneOut-clause-back
returns-in-NoneOut-clause-back c = λ h. (rw (to_z-of_z w128 c.args.divisor c.ranges.divisor) at c.are_multiples_in_edges.ensures.back) h

pub returns-in-SomeIn-clause-forth : goal.returns-in-SomeIn-clause-forth
returns-in-SomeIn-clause-forth c = λ told.
    let e = rw (to_z-of_z w128 c.args.divisor c.ranges.divisor, c.as_slice-in-SomeIn.ensures) at (c.are_multiples_in_edges-in-SomeIn.ensures.forth told) in
    let P : ℕ → Type 0 = λ u. IsMultipleAt (leaf_rows c.args.self.now) c.args.self.now.multipliers.now c.args.divisor (Unknown u) in
    subst (λ (b : Branch). All (λ t. P t.0) (constraint_of_branch b).terms) (sym c.in-SomeIn.is) (in_named P c.in-SomeIn.set.now c.in-SomeIn.net.now.edges (negsuc 0) e)

pub returns-in-SomeIn-clause-back : goal.returns-in-SomeIn-clause-back
returns-in-SomeIn-clause-back c = λ h. (rw (to_z-of_z w128 c.args.divisor c.ranges.divisor) at c.are_multiples_in_edges-in-SomeIn.ensures.back) h
