use Rattle.std.proofs.Common.{rules, arith}
use Rattle.replace_machines.proofs.RowLemmas.{row_added, border_added}
use Rattle.replace_machines.proofs.rows.add_row.Goals as goal

pub returns-clause-rows : goal.returns-clause-rows
returns-clause-rows c =
    row_added c.args.pattern.now c.args.rows.now c.push-2.new.self c.row_at-back.result.now c.in_ok-row-2.row c.args.border _ _
    (λ z. search (rules, z, c.if-held-eq0.false, c.len-held.ensures)) c.is_word.ensures (search (rules, c.as_slice.ensures, c.len-held.ensures))
    c.requires.border (rw c.as_slice-2.ensures at c.row_at-back.ensures) (let l = c.len-held.ensures in omega (arith, l)) c.in_ok-row-2.ensures c.requires.rows c.in_ok-push-2.ensures.ok

pub returns-clause-border : goal.returns-clause-border
returns-clause-border c =
    border_added c.args.pattern.now c.args.rows.now c.row_at-back.result.now c.args.border _ c.target_of-next.result
    (λ z. search (rules, z, c.if-held-eq0.false, c.len-held.ensures)) (search (rules, c.as_slice.ensures, c.len-held.ensures))
    c.requires.border (rw c.as_slice-2.ensures at c.row_at-back.ensures) c.requires.rows c.target_of-next.ensures
