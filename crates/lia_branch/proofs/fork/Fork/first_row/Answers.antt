use Rattle.std.proofs.Common.{rules, ◌≡◌, suc, slice_get, ap, sym, ◌∙◌, subst}
use Rattle.std.specs.Int.{w128}
use Rattle.std.proofs.lemmas.Int.{to_z-of_z}
use mir.Val.{SFits}
use Rattle.std.proofs.lemmas.Result.{IfOk-weaker}
use Rattle.farkas_check.specs.Systems.{Constraint, constraint_of}
use Rattle.farkas_check.specs.Closings.{at_most, none_out}
use Rattle.farkas_check.specs.declared.net.Net.{Net}
use Rattle.lia_branch.specs.Nodes.{IsRowOf}
use Rattle.lia_branch.specs.Forks.{AreForkSides, IsForkWithin}
use Rattle.lia_branch.specs.declared.fork.Fork.{Fork}
use Rattle.lia_branch.proofs.Branching.{row_within}
use Rattle.lia_branch.proofs.ForkRows.{indexed, row_of}
use Rattle.lia_branch.proofs.fork.Fork.first_row.Goals as goal
use Rattle.sv_linear.specs.Rows.{IsRowWithin}

pub returns-in-Unknown-clause-within : goal.returns-in-Unknown-clause-within
returns-in-Unknown-clause-within c =
    let w = subst (IsForkWithin c.args.system.now) c.in-Unknown.is c.requires in
    IfOk-weaker c.at_most_row.result (IsRowWithin (suc c.in-Unknown.unknown)) (IsRowWithin c.args.system.now.unknowns) (λ r h. row_within c.in-Unknown.unknown c.args.system.now.unknowns r w.0 h) c.at_most_row.ensures.within

pub returns-in-Unknown-clause-row : goal.returns-in-Unknown-clause-row
returns-in-Unknown-clause-row c = λ first second a.
    let b = subst (λ (f : Fork). AreForkSides c.args.system.now.nets f first second) c.in-Unknown.is a in
    let u = c.in-Unknown.unknown in
    let at = c.in-Unknown.at in
    let fa : SFits w128 at = search rules in
    IfOk-weaker c.at_most_row.result (λ r. constraint_of r ≡ at_most u at) (IsRowOf first) (λ r h. row_of first r (h ∙ sym b.0)) (rw (to_z-of_z w128 _ fa) at c.at_most_row.ensures.row)

pub returns-in-Set-clause-row : goal.returns-in-Set-clause-row
returns-in-Set-clause-row c = λ first second a.
    let b = subst (λ (f : Fork). AreForkSides c.args.system.now.nets f first second) c.in-Set.is a in
    let net = c.index-as_slice-net.is ∙ indexed c.as_slice.result.now c.in-Set.net c.index-as_slice-net.result b.0 (ap (λ ns. slice_get ns c.in-Set.net) c.as_slice.ensures ∙ b.1.0) in
    IfOk-weaker c.none_out_row.result (IsRowOf (none_out c.index-as_slice-net.result c.as_slice-in-Set.result.now)) (IsRowOf first)
    (λ r h. subst (λ (w : Constraint). IsRowOf w r) (ap (λ (m : Net). none_out m c.as_slice-in-Set.result.now) net ∙ ap (none_out b.0) c.as_slice-in-Set.ensures ∙ sym b.1.1.0) h) c.none_out_row.ensures.row
