use Rattle.std.proofs.Common.{◌≡◌, subst, [], true, false}
use Rattle.std.specs.Ordering.{nat_cmp}
use Rattle.std.specs.declared.cmp.Ordering.TheVariants.{Less}
use Rattle.straight_line.specs.Waiting.{IsSorting}
use Rattle.straight_line.proofs.Sorted.{is_sorted}
use Rattle.straight_line.proofs.Starting.{all_has, cmp_less, empty_keys, least_within}
use Rattle.straight_line.proofs.ordering.Sorting.run.Goals as goal

pub close-requires-clause-inside : goal.close-requires-clause-inside
close-requires-clause-inside c = least_within c.args.definitions.now c.loop-first.self.order c.loop-first.self.ahead c.in-Some.first c.pop_first.new.self.keys c.loop-first.self.waiters.items (subst (λ z. IsSorting c.args.definitions.now [] c.loop-first.self.order c.loop-first.self.ahead z c.loop-first.self.waiters.items) c.in-Some.ensures.removal c.loop-first.invariant.sorting)

pub close-requires-clause-least : goal.close-requires-clause-least
close-requires-clause-least c = λ k h. cmp_less c.in-Some.first k (all_has (λ j. nat_cmp c.in-Some.first j ≡ Less) c.pop_first.new.self.keys c.in-Some.ensures.all_above k h)

pub returns-clause-sorted : goal.returns-clause-sorted
returns-clause-sorted c =
    let none : c.loop-first.self.free.keys ≡ [] = empty_keys c.loop-first.self.free.keys (λ l. absurd (let h : false ≡ true = c.in_default.ensures.variant.1 l in cc)) in
    is_sorted c.args.definitions.now c.loop-first.self.order c.loop-first.self.ahead c.loop-first.self.waiters.items (subst (λ z. IsSorting c.args.definitions.now [] c.loop-first.self.order c.loop-first.self.ahead z c.loop-first.self.waiters.items) none c.loop-first.invariant.sorting)
