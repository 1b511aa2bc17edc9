use Rattle.std.proofs.Common.{sym, subst}
use Rattle.std.specs.List.Sorted.{IsPermutation}
use Rattle.std.proofs.lemmas.List.Sorted.{Contains-permutation, IsPermutation-sym}
use Rattle.std.proofs.lemmas.Result.{IfOk-weaker}
use Rattle.machine_core.proofs.JoinedLemmas.{joined-same, joined-sorted}
use Rattle.machine_core.proofs.joined.join_moves.Goals as goal

sorted : (c : goal.After-from_vec) → IsPermutation c.args.moves c.from_vec.result
sorted c = subst (IsPermutation c.args.moves) (sym c.from_vec.ensures) (subst (λ l. IsPermutation l c.sort_unstable_by.new.self.items) c.into_vec-sorted.ensures c.sort_unstable_by.ensures.permutation)

pub join_sorted-requires : goal.join_sorted-requires
join_sorted-requires c m i = c.requires m (Contains-permutation c.from_vec.result c.args.moves m (IsPermutation-sym c.args.moves c.from_vec.result (sorted c)) i)

pub returns-then-len-lt2 : goal.returns-then-len-lt2
returns-then-len-lt2 c = joined-same c.args.moves c.requires

pub returns : goal.returns
returns c =
    let perm = subst (IsPermutation c.args.moves) (sym c.from_vec.ensures) (subst (λ l. IsPermutation l c.sort_unstable_by.new.self.items) c.into_vec-sorted.ensures c.sort_unstable_by.ensures.permutation) in
    IfOk-weaker c.join_sorted.result _ _ (λ joined h. joined-sorted c.args.moves c.from_vec.result joined perm h) c.join_sorted.ensures
