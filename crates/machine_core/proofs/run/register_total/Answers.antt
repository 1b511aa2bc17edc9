use Rattle.std.proofs.Common.{ℕ, ◌<◌, ◌≤◌, ◌⊎◌, inl, inr, slice_index, Option, Some, None, IfNone, ap, arith}
use Rattle.machine_core.proofs.CostLemmas.{entry-step, entry-past}
use Rattle.machine_core.proofs.run.register_total.Goals as goal

if_none : (r : Option ℕ) (P : Type 0) → P → IfNone r P
if_none None P p = p
if_none (Some x) P p = tt

not_below : (a b : ℕ) → (a < b → ⊥) → b ≤ a
not_below a b h = elim (cases a b) [ inl lt ↦ absurd (h lt) | inr ge ↦ ge ]
  where
    cases : (a b : ℕ) → (a < b) ⊎ (b ≤ a)
    cases a b = grind arith

pub returns-in_err-sum-clause-past : goal.returns-in_err-sum-clause-past
returns-in_err-sum-clause-past c =
    if_none c.from_residual.result _ (entry-past c.args.register c.args.costs.now c.args.last c.loop-cost.cost-index c.cost-item.result
    c.loop-cost.sum (slice_index c.as_slice.result.now c.args.register) c.loop-cost-test.true c.cost-item.is c.loop-cost.invariant.so_far
    (ap (λ l. slice_index l c.args.register) c.as_slice.ensures) (not_below _ _ c.in_err-sum.ensures))

pub loop-cost-preserved : goal.loop-cost-preserved
loop-cost-preserved c = record {
  so_far = entry-step c.args.register c.args.costs.now c.args.last c.loop-cost.cost-index c.cost-item.result
      c.loop-cost.sum (slice_index c.as_slice.result.now c.args.register) c.in_ok-sum.sum c.loop-cost-test.true c.cost-item.is c.loop-cost.invariant.so_far
      (ap (λ l. slice_index l c.args.register) c.as_slice.ensures) c.in_ok-sum.ensures.1;
  fits = rw c.in_ok-sum.ensures.1 c.in_ok-sum.ensures.0;
}
