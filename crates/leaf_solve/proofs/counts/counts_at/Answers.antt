use Rattle.std.proofs.Common.{◌≡◌, ℕ, ◌+◌, ◌<◌, List, pos, slice_index, subst, sym, arith}
use Rattle.std.proofs.lemmas.List.{length-append}
use Rattle.farkas_check.specs.Cuts.{values_of}
use Rattle.leaf_solve.proofs.CountLemmas.{values-more}
use Rattle.leaf_solve.proofs.counts.counts_at.Goals as goal

pub loop-k-preserved : goal.loop-k-preserved
loop-k-preserved c =
    let grown = subst (λ (l : List ℕ). (j : ℕ) → j < c.loop-k.k + 1 → values_of c.args.point.now (c.args.base + j) ≡ pos (slice_index l j)) (sym c.in_ok-push.ensures.ok)
    (values-more (values_of c.args.point.now) c.args.base c.loop-k.k c.count_at.result c.loop-k.counts c.loop-k.invariant.size c.count_at.ensures c.loop-k.invariant.values) in
    record {
      size = grind (arith, length-append, c.in_ok-push.ensures.ok, c.loop-k.invariant.size);
      values = grown;
    }
