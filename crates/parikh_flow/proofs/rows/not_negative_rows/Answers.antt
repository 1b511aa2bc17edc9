use Rattle.std.proofs.Common.{◌≡◌, ◌+◌, ◌-◌, map, subst, arith}
use Rattle.std.specs.List.{range_with_len}
use Rattle.parikh_flow.specs.Rows.{not_negative_row, AreSameRows}
use Rattle.parikh_flow.proofs.RowLemmas.{rows-next}
use Rattle.parikh_flow.proofs.rows.not_negative_rows.Goals as goal

pub loop-unknown-preserved : goal.loop-unknown-preserved
loop-unknown-preserved c =
    let from = c.loop-unknown.auto.unknown in
    let same : c.loop-unknown.unknown ≡ c.args.from + (c.loop-unknown.unknown - c.args.from) = omega arith in
    let more : c.loop-unknown.unknown - c.args.from + 1 ≡ c.loop-unknown.unknown + 1 - c.args.from = omega arith in
    subst (λ n. AreSameRows c.push.new.self (map not_negative_row (range_with_len c.args.from n))) more
    (rows-next not_negative_row c.args.from (c.loop-unknown.unknown - c.args.from) c.loop-unknown.unknown c.loop-unknown.rows c.push.new.self c.in_ok-not_negative_row.field-0
    same c.loop-unknown.invariant c.in_ok-not_negative_row.ensures c.in_ok-push.ensures.ok)
