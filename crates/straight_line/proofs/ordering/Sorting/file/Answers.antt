use Rattle.std.proofs.Common.{◌≡◌, ◌≤◌, ℕ, ◌∙◌, ap, subst, sym, get_or, length, ◌<◌}
use Rattle.std.proofs.lemmas.Result.{on_ok_weaker}
use Rattle.std.proofs.lemmas.Option.{get_or_from_slice_get}
use Rattle.flat_cubes.specs.Using.{used}
use Rattle.flat_cubes.specs.Straight.{AreBelow}
use Rattle.straight_line.specs.Waiting.{IsAhead}
use Rattle.straight_line.proofs.Sorted.{files_free, files_waiting}
use Rattle.straight_line.proofs.Uses.{below_at, within_uses}
use Rattle.straight_line.proofs.ordering.Sorting.file.Goals as goal

pub returns-then-from-used-clause-filed : goal.returns-then-from-used-clause-filed
returns-then-from-used-clause-filed c =
    let p = c.requires.passed in
    let before : (i : ℕ) → c.args.waiter.from ≤ i → i < c.next_ahead-from.result → IsAhead c.args.self.now.ahead (get_or c.uses-used.result.now i 0) → ⊥ = subst (λ z. (i : ℕ) → c.args.waiter.from ≤ i → i < c.next_ahead-from.result → IsAhead z (get_or c.uses-used.result.now i 0) → ⊥) c.as_slice.ensures c.next_ahead-from.ensures.before in
    let same = get_or_from_slice_get c.args.definitions.now c.args.waiter.definition c.requires.passed.definition c.index-definitions-waiter.result c.requires.passed.is in
    let is : c.uses-used.result.now ≡ used c.requires.passed.definition.by = c.uses-used.ensures ∙ ap (λ z. used z.by) same in
    let below : AreBelow (length c.args.self.now.waiters.items) c.uses-used.result.now = subst (AreBelow (length c.args.self.now.waiters.items)) (sym is) (subst (λ n. AreBelow n (used c.requires.passed.definition.by)) (sym c.requires.rows) (within_uses (length c.args.self.now.ahead) c.args.definitions.now c.args.waiter.definition c.requires.passed.definition c.requires.within c.requires.passed.is)) in
    on_ok_weaker c.push.result (λ h rest s.
    files_waiting c.args.definitions.now c.args.waiter rest c.args.self.now.order c.args.self.now.ahead c.args.self.now.free.keys c.args.self.now.waiters.items p c.uses-used.result.now is c.next_ahead-from.result before
    c.if-from-used.true (subst (λ z. IsAhead z (get_or c.uses-used.result.now c.next_ahead-from.result 0)) c.as_slice.ensures (c.next_ahead-from.ensures.here c.if-from-used.true)) (below_at (length c.args.self.now.waiters.items) c.uses-used.result.now c.next_ahead-from.result below c.if-from-used.true)
    c.index_mut.result.now c.push.new.self c.index_mut.ensures.value h s) c.push.ensures.ok

pub returns-in_ok-insert-clause-filed : goal.returns-in_ok-insert-clause-filed
returns-in_ok-insert-clause-filed c =
    let p = c.requires.passed in
    let before : (i : ℕ) → c.args.waiter.from ≤ i → i < c.next_ahead-from.result → IsAhead c.args.self.now.ahead (get_or c.uses-used.result.now i 0) → ⊥ = subst (λ z. (i : ℕ) → c.args.waiter.from ≤ i → i < c.next_ahead-from.result → IsAhead z (get_or c.uses-used.result.now i 0) → ⊥) c.as_slice.ensures c.next_ahead-from.ensures.before in
    let same = get_or_from_slice_get c.args.definitions.now c.args.waiter.definition c.requires.passed.definition c.index-definitions-waiter.result c.requires.passed.is in
    let is : c.uses-used.result.now ≡ used c.requires.passed.definition.by = c.uses-used.ensures ∙ ap (λ z. used z.by) same in
    λ rest s.
    files_free c.args.definitions.now c.args.waiter rest c.args.self.now.order c.args.self.now.ahead c.args.self.now.free.keys c.args.self.now.waiters.items p c.uses-used.result.now is c.next_ahead-from.result before
    c.insert.new.self.keys c.if-from-used.false (λ k. c.in_ok-insert.ensures.updates.0 k) s
