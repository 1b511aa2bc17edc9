use Rattle.std.proofs.Common.{sym, subst, rules}
use Rattle.std.specs.List.Sorted.{IsNonDecreasingBy}
use Rattle.std.specs.Prelude.{nat_lt, nat_le}
use Rattle.std.proofs.lemmas.List.Sorted.{IsPartitionedBy-ltb, IsPartitionedBy-leb, IsNonDecreasingBy-drop, IsPartitionPoint-from_clause}
use Rattle.machine_meet.specs.declared.overlaps.MoveInterval.{MoveInterval}
use Rattle.machine_meet.proofs.OverlapLemmas.{beginning-exact}
use Rattle.machine_meet.proofs.overlaps.beginning.Goals as goal

pub returns : goal.returns
returns c =
    let spans = c.args.spans.now in
    let i = c.partition_point.result in
    let from = c.split_at.result.1.now in
    let j = c.partition_point-2.result in
    let order = subst (IsNonDecreasingBy (λ (s : MoveInterval). s.low)) (sym c.split_at.ensures.back) (IsNonDecreasingBy-drop (λ (s : MoveInterval). s.low) i spans c.requires) in
    beginning-exact spans from c.split_at-2.result.0.now c.args.low c.args.high i j
    c.partition_point.ensures.bound
    (IsPartitionPoint-from_clause (λ (s : MoveInterval). nat_lt s.low c.args.low) spans i c.partition_point.ensures.partitioned
    (IsPartitionedBy-ltb (λ (s : MoveInterval). s.low) spans c.args.low c.requires) (λ a r f q. search rules))
    c.split_at.ensures.back
    c.partition_point-2.ensures.bound
    (IsPartitionPoint-from_clause (λ (s : MoveInterval). nat_le s.low c.args.high) from j c.partition_point-2.ensures.partitioned
    (IsPartitionedBy-leb (λ (s : MoveInterval). s.low) from c.args.high order) (λ a r f q. search rules))
    c.split_at-2.ensures.front
