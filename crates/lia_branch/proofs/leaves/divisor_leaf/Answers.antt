use Rattle.std.proofs.Common.{rules, ℕ, List, map, refl, sym, ◌∙◌, subst}
use Rattle.std.proofs.lemmas.Int.{to_z-of_z}
use Rattle.std.specs.Int.{w128}
use mir.Val.{SFits}
use Rattle.std.specs.Prelude.{ℤ}
use Rattle.farkas_check.specs.Systems.{constraint_of}
use Rattle.farkas_check.specs.Closings.{DivisorRule}
use Rattle.farkas_check.specs.Fitting.{LeafFits}
use Rattle.farkas_check.specs.declared.tree.Tree.TheVariants as v
use Rattle.lia_tableau.specs.Crossing.{column_number}
use Rattle.lia_branch.specs.Forks.{VisitHolds}
use Rattle.lia_branch.specs.Founds.{IsNodeClosing}
use Rattle.lia_branch.specs.LeafMultipliers.{IsPastColumn}
use Rattle.lia_branch.proofs.DivisorFounds.{divisor_place, divisor_positive, divisor_rule_here, divisor_closed, divisor_stopped}
use Rattle.lia_branch.proofs.leaves.divisor_leaf.Goals as goal

pub identity-line-requires : goal.identity-line-requires
identity-line-requires c = divisor_place c.args.system.now c.args.rows.now c.args.tableau.now c.requires.ready c.args.at c.requires.status

pub unknowns_divisor-divisor-requires : goal.unknowns_divisor-divisor-requires
unknowns_divisor-divisor-requires c = let row = c.identity-line.ensures.row in (c.args.tableau.now.tableau.line row.0 c.identity-line.result.now row.1.is_line).symmetric

pub remainders_of-requires-clause-symmetric : goal.remainders_of-requires-clause-symmetric
remainders_of-requires-clause-symmetric c = let row = c.identity-line.ensures.row in (c.args.tableau.now.tableau.line row.0 c.identity-line.result.now row.1.is_line).symmetric

pub remainders_of-requires-clause-positive : goal.remainders_of-requires-clause-positive
remainders_of-requires-clause-positive c =
    let fd : SFits w128 c.unknowns_divisor-divisor.result = search rules in
    rw (to_z-of_z w128 _ fd)
    (divisor_positive c.args.system.now c.args.rows.now c.args.tableau.now c.requires.ready c.args.at c.requires.status c.identity-line.result.now c.identity-line.ensures.row c.unknowns_divisor-divisor.result c.unknowns_divisor-divisor.ensures)

pub unreachable-requires : goal.unreachable-requires
unreachable-requires c =
    let fd : SFits w128 c.unknowns_divisor-divisor.result = search rules in
    let is = rw (to_z-of_z w128 _ fd) at c.in_ok-multipliers.ensures in
    let told = rw (c.in-Fails.is, to_z-of_z w128 _ fd) at c.in_ok-test_divisor.ensures in
    told (subst (λ l. DivisorRule (map constraint_of c.args.rows.now) l c.unknowns_divisor-divisor.result) (sym (c.as_slice.ensures ∙ is))
    (divisor_rule_here c.args.system.now c.args.rows.now c.args.tableau.now c.requires.ready c.args.at c.requires.status c.identity-line.result.now c.identity-line.ensures.row c.unknowns_divisor-divisor.result c.unknowns_divisor-divisor.ensures))

pub returns-in-Closes : goal.returns-in-Closes
returns-in-Closes c = λ node k m.
    let fd : SFits w128 c.unknowns_divisor-divisor.result = search rules in
    let is = rw (to_z-of_z w128 _ fd) at c.in_ok-multipliers.ensures in
    let told = rw (c.in-Closes.is) at c.in_ok-test_divisor.ensures in
    rw (to_z-of_z w128 _ fd)
    (subst (λ (l : List (ℕ × ℤ)). IsNodeClosing node (v.Divisor l c.unknowns_divisor-divisor.result) 0) (sym is)
    (divisor_closed c.args.system.now c.args.rows.now c.args.tableau.now c.requires.ready c.args.at c.requires.status c.identity-line.result.now c.identity-line.ensures.row c.unknowns_divisor-divisor.result c.unknowns_divisor-divisor.ensures node k
    (subst (LeafFits (map constraint_of c.args.rows.now)) (c.as_slice.ensures ∙ is) told.1)))

pub returns-in-Past : goal.returns-in-Past
returns-in-Past c = λ node k m.
    let fd : SFits w128 c.unknowns_divisor-divisor.result = search rules in
    let is = rw (to_z-of_z w128 _ fd) at c.in_ok-multipliers.ensures in
    let told = rw (c.in-Past.is) at c.in_ok-test_divisor.ensures in
    let n = c.args.system.now.unknowns in
    let at = column_number n c.in-Past.column in
    subst (VisitHolds c.args.system.now c.args.tableau.now node) (sym c.past_sum.ensures) (λ left.
    divisor_stopped c.args.system.now c.args.rows.now c.args.tableau.now c.requires.ready c.args.at c.requires.status c.identity-line.result.now c.identity-line.ensures.row c.unknowns_divisor-divisor.result c.unknowns_divisor-divisor.ensures node left at k m
    (subst (λ l. IsPastColumn (map constraint_of c.args.rows.now) l n at) (c.as_slice.ensures ∙ is)
    (c.in-Past.column, (refl, told.outside))))
