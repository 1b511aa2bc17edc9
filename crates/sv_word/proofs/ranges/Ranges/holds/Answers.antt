use Rattle.std.proofs.Common.{sym, ap, ◌∙◌, subst, rules}
use Rattle.std.proofs.lemmas.List.Sorted.{IsPartitionPoint-from_clause}
use Rattle.std.specs.Prelude.{nat_lt}
use Rattle.sv_word.proofs.SearchLemmas.{IsSoughtAt, parted, sought-at, sought-none, sought-some}
use Rattle.sv_word.specs.Ranges.{in_ranges, IsApartFrom}
use Rattle.sv_word.proofs.ranges.Ranges.holds.Goals as goal

pub returns-in-Some : goal.returns-in-Some
returns-in-Some c =
    let pairs = c.as_slice-pairs.result.now in
    let apart = subst (IsApartFrom 0) (sym c.as_slice-pairs.ensures) c.self.invariant in
    let place : IsSoughtAt pairs c.args.c c.partition_point-place.result = (
    sought-at pairs c.args.c c.partition_point-place.result
    (IsPartitionPoint-from_clause (λ p. nat_lt p.1 c.args.c) pairs c.partition_point-place.result c.partition_point-place.ensures.partitioned
    (parted 0 pairs c.args.c apart) (λ a r f q. search rules))) in
    sym (sought-some 0 pairs c.args.c c.partition_point-place.result c.in-Some.pair.now apart place (sym c.in-Some.ensures))
    ∙ ap (λ l. in_ranges l c.args.c) (c.as_slice-pairs.ensures ∙ c.self.view_is)

pub returns-in-None : goal.returns-in-None
returns-in-None c =
    let pairs = c.as_slice-pairs.result.now in
    let apart = subst (IsApartFrom 0) (sym c.as_slice-pairs.ensures) c.self.invariant in
    let place : IsSoughtAt pairs c.args.c c.partition_point-place.result = (
    sought-at pairs c.args.c c.partition_point-place.result
    (IsPartitionPoint-from_clause (λ p. nat_lt p.1 c.args.c) pairs c.partition_point-place.result c.partition_point-place.ensures.partitioned
    (parted 0 pairs c.args.c apart) (λ a r f q. search rules))) in
    sym (sought-none 0 pairs c.args.c c.partition_point-place.result apart place (sym c.in-None.ensures))
    ∙ ap (λ l. in_ranges l c.args.c) (c.as_slice-pairs.ensures ∙ c.self.view_is)
