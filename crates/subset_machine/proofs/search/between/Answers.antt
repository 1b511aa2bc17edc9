use Rattle.std.proofs.Common.{ℕ, sym, subst, rules}
use Rattle.std.specs.List.Sorted.{IsNonDecreasingBy}
use Rattle.std.specs.Prelude.{nat_lt, nat_le}
use Rattle.std.proofs.lemmas.List.Sorted.{IsPartitionedBy-ltb, IsPartitionedBy-leb, IsNonDecreasingBy-drop, IsPartitionPoint-from_clause}
use Rattle.subset_machine.proofs.SearchLemmas.{between-exact}
use Rattle.subset_machine.proofs.search.between.Goals as goal

pub returns : goal.returns
returns c =
    let pairs = c.args.pairs.now in
    let i = c.partition_point.result in
    let from = c.split_at.result.1.now in
    let j = c.partition_point-2.result in
    let order = subst (IsNonDecreasingBy (λ (p : ℕ × ℕ). p.0)) (sym c.split_at.ensures.back) (IsNonDecreasingBy-drop (λ (p : ℕ × ℕ). p.0) i pairs c.requires) in
    between-exact pairs from c.split_at-2.result.0.now c.args.low c.args.high i j
    c.partition_point.ensures.bound
    (IsPartitionPoint-from_clause (λ (p : ℕ × ℕ). nat_lt p.0 c.args.low) pairs i c.partition_point.ensures.partitioned
    (IsPartitionedBy-ltb (λ (p : ℕ × ℕ). p.0) pairs c.args.low c.requires) (λ a r f q. search rules))
    c.split_at.ensures.back
    c.partition_point-2.ensures.bound
    (IsPartitionPoint-from_clause (λ (p : ℕ × ℕ). nat_le p.0 c.args.high) from j c.partition_point-2.ensures.partitioned
    (IsPartitionedBy-leb (λ (p : ℕ × ℕ). p.0) from c.args.high order) (λ a r f q. search rules))
    c.split_at-2.ensures.front
