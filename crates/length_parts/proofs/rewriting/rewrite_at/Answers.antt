use Rattle.std.proofs.Common.{subst, sym}
use Rattle.std.specs.Prelude.{IfSome}
use Rattle.length_parts.specs.Rewriting.{IsRewriting}
use Rattle.length_parts.specs.Steps.{IsBoundRow}
use Rattle.length_parts.specs.declared.rewriting.BoundRow.{BoundRow}
use Rattle.length_parts.proofs.RewriteLemmas.{nothing-rewritten, step-rewriting}
use Rattle.length_parts.proofs.rewriting.rewrite_at.Goals as goal

pub returns-in-None : goal.returns-in-None
returns-in-None c = nothing-rewritten c.args.flat

pub returns-in_ok-new-in-Some : goal.returns-in_ok-new-in-Some
returns-in_ok-new-in-Some c =
    let row = subst (λ o. IfSome o (λ (b : BoundRow). IsBoundRow c.args.flat c.args.at b.variable b.bound)) c.in-Some.is c.bound_at.ensures in
    subst (IsRewriting c.args.flat) (sym c.in_ok-new-in-Some.ensures) (step-rewriting c.args.flat c.args.at c.in-Some.row.variable c.in-Some.row.bound c.in_ok-regex-in-Some.regex row c.in_ok-regex-in-Some.ensures)
