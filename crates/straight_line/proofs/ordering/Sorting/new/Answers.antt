use Rattle.std.proofs.Common.{sym, subst, length, []}
use Rattle.straight_line.specs.Waiting.{IsSorting, waiters_from}
use Rattle.straight_line.proofs.Starting.{started}
use Rattle.straight_line.proofs.ordering.Sorting.new.Goals as goal

pub returns-clause-sorting : goal.returns-clause-sorting
returns-clause-sorting c = let s = started c.args.definitions.now c.args.variables c.in_ok-ahead.ahead c.in_ok-waiters.waiters.items c.in_ok-waiters.ensures c.in_ok-ahead.ensures.marked in
    subst (λ z. IsSorting c.args.definitions.now (waiters_from 0 (length c.args.definitions.now)) z c.in_ok-ahead.ahead c.new-2.result.keys c.in_ok-waiters.waiters.items) (sym c.new.ensures) (subst (λ z. IsSorting c.args.definitions.now (waiters_from 0 (length c.args.definitions.now)) [] c.in_ok-ahead.ahead z c.in_ok-waiters.waiters.items) (sym c.new-2.ensures.empty) s)
