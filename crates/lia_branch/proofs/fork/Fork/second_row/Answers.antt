use Rattle.std.proofs.Common.{rules, ◌≡◌, suc, pos, ◌+ℤ◌, slice_get, ap, sym, ◌∙◌, subst, arith}
use Rattle.std.specs.Int.{w128}
use Rattle.std.proofs.lemmas.Int.{ints, to_z-of_z}
use mir.Val.{SFits}
use Rattle.std.proofs.lemmas.Result.{IfOk-weaker}
use Rattle.farkas_check.specs.Systems.{Constraint, constraint_of}
use Rattle.farkas_check.specs.Closings.{at_least, some_in}
use Rattle.farkas_check.specs.declared.net.Net.{Net}
use Rattle.lia_branch.specs.Nodes.{IsRowOf}
use Rattle.lia_branch.specs.Forks.{AreForkSides, IsForkWithin}
use Rattle.lia_branch.specs.declared.fork.Fork.{Fork}
use Rattle.lia_branch.proofs.Branching.{row_within}
use Rattle.lia_branch.proofs.ForkRows.{indexed, row_of}
use Rattle.lia_branch.proofs.fork.Fork.second_row.Goals as goal
use Rattle.sv_linear.specs.Rows.{IsRowWithin}

pub returns-in-Unknown-clause-within : goal.returns-in-Unknown-clause-within
returns-in-Unknown-clause-within c =
    let w = subst (IsForkWithin c.args.system.now) c.in-Unknown.is c.requires in
    IfOk-weaker c.at_least_row.result (IsRowWithin (suc c.in-Unknown.unknown)) (IsRowWithin c.args.system.now.unknowns) (λ r h. row_within c.in-Unknown.unknown c.args.system.now.unknowns r w.0 h) c.at_least_row.ensures.within

pub returns-in-Unknown-clause-row : goal.returns-in-Unknown-clause-row
returns-in-Unknown-clause-row c = λ first second a.
    let b = subst (λ (f : Fork). AreForkSides c.args.system.now.nets f first second) c.in-Unknown.is a in
    let w = subst (IsForkWithin c.args.system.now) c.in-Unknown.is c.requires in
    let u = c.in-Unknown.unknown in
    let at = c.in-Unknown.at in
    let fa : SFits w128 at = search rules in
    let fn : SFits w128 (at +ℤ pos 1) = omega (arith, ints, w.1.1) in
    IfOk-weaker c.at_least_row.result (λ r. constraint_of r ≡ at_least u (at +ℤ pos 1)) (IsRowOf second) (λ r h. row_of second r (h ∙ sym b.1)) (rw (to_z-of_z w128 _ fa, to_z-of_z w128 _ fn) at c.at_least_row.ensures.row)

pub returns-in-Set-clause-row : goal.returns-in-Set-clause-row
returns-in-Set-clause-row c = λ first second a.
    let b = subst (λ (f : Fork). AreForkSides c.args.system.now.nets f first second) c.in-Set.is a in
    let net = c.index-as_slice-net.is ∙ indexed c.as_slice.result.now c.in-Set.net c.index-as_slice-net.result b.0 (ap (λ ns. slice_get ns c.in-Set.net) c.as_slice.ensures ∙ b.1.0) in
    IfOk-weaker c.some_in_row.result (IsRowOf (some_in c.index-as_slice-net.result c.as_slice-in-Set.result.now)) (IsRowOf second)
    (λ r h. subst (λ (w : Constraint). IsRowOf w r) (ap (λ (m : Net). some_in m c.as_slice-in-Set.result.now) net ∙ ap (some_in b.0) c.as_slice-in-Set.ensures ∙ sym b.1.1.1) h) c.some_in_row.ensures.row
