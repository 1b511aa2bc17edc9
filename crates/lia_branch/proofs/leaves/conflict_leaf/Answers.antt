use Rattle.std.proofs.Common.{rules, ℕ, List, map, refl, sym, ◌∙◌, subst}
use Rattle.std.proofs.lemmas.Int.{to_z-of_z}
use Rattle.std.specs.Int.{w128}
use mir.Val.{SFits}
use Rattle.std.specs.Prelude.{ℤ}
use Rattle.farkas_check.specs.Systems.{constraint_of}
use Rattle.farkas_check.specs.Closings.{FarkasRule}
use Rattle.farkas_check.specs.Fitting.{LeafFits}
use Rattle.farkas_check.specs.declared.tree.Tree.TheVariants as v
use Rattle.lia_tableau.specs.Crossing.{column_number}
use Rattle.lia_branch.specs.Forks.{VisitHolds}
use Rattle.lia_branch.specs.Founds.{IsNodeClosing}
use Rattle.lia_branch.specs.LeafMultipliers.{IsPastColumn}
use Rattle.lia_branch.proofs.ConflictFounds.{conflict_place, conflict_rule_here, conflict_closed, conflict_stopped}
use Rattle.lia_branch.proofs.leaves.conflict_leaf.Goals as goal

pub identity-line-requires : goal.identity-line-requires
identity-line-requires c = conflict_place c.args.system.now c.args.rows.now c.args.tableau.now c.requires.ready c.args.at c.requires.status

pub multipliers_of-requires : goal.multipliers_of-requires
multipliers_of-requires c = let row = c.identity-line.ensures.row in (c.args.tableau.now.tableau.line row.0 c.identity-line.result.now row.1.is_line).symmetric

pub unreachable-requires : goal.unreachable-requires
unreachable-requires c =
    let fc : SFits w128 c.identity-line.result.now.form.constant = search rules in
    let low = rw (to_z-of_z w128 _ fc) at c.is_negative-negated.ensures.negative in
    let high = rw (to_z-of_z w128 _ fc) at c.is_negative-negated.ensures.not_negative in
    let told = rw (c.in-Fails.is) at c.in_ok-test_farkas.ensures in
    told (subst (FarkasRule (map constraint_of c.args.rows.now)) (sym (c.as_slice.ensures ∙ c.in_ok-multipliers.ensures))
    (conflict_rule_here c.args.system.now c.args.rows.now c.args.tableau.now c.requires.ready c.args.at c.requires.status c.identity-line.result.now c.identity-line.ensures.row c.is_negative-negated.result low high))

pub returns-in-Closes : goal.returns-in-Closes
returns-in-Closes c = λ node k m.
    let fc : SFits w128 c.identity-line.result.now.form.constant = search rules in
    let low = rw (to_z-of_z w128 _ fc) at c.is_negative-negated.ensures.negative in
    let high = rw (to_z-of_z w128 _ fc) at c.is_negative-negated.ensures.not_negative in
    let told = rw (c.in-Closes.is) at c.in_ok-test_farkas.ensures in
    subst (λ (l : List (ℕ × ℤ)). IsNodeClosing node (v.Farkas l) 0) (sym c.in_ok-multipliers.ensures)
    (conflict_closed c.args.system.now c.args.rows.now c.args.tableau.now c.requires.ready c.args.at c.requires.status c.identity-line.result.now c.identity-line.ensures.row c.is_negative-negated.result low high node k
    (subst (LeafFits (map constraint_of c.args.rows.now)) (c.as_slice.ensures ∙ c.in_ok-multipliers.ensures) told.1))

pub returns-in-Past : goal.returns-in-Past
returns-in-Past c = λ node k m.
    let fc : SFits w128 c.identity-line.result.now.form.constant = search rules in
    let low = rw (to_z-of_z w128 _ fc) at c.is_negative-negated.ensures.negative in
    let high = rw (to_z-of_z w128 _ fc) at c.is_negative-negated.ensures.not_negative in
    let told = rw (c.in-Past.is) at c.in_ok-test_farkas.ensures in
    let n = c.args.system.now.unknowns in
    let at = column_number n c.in-Past.column in
    subst (VisitHolds c.args.system.now c.args.tableau.now node) (sym c.past_sum.ensures) (λ left.
    conflict_stopped c.args.system.now c.args.rows.now c.args.tableau.now c.requires.ready c.args.at c.requires.status c.identity-line.result.now c.identity-line.ensures.row c.is_negative-negated.result low high node left at k m
    (subst (λ l. IsPastColumn (map constraint_of c.args.rows.now) l n at) (c.as_slice.ensures ∙ c.in_ok-multipliers.ensures)
    (c.in-Past.column, (refl, told.outside))))
