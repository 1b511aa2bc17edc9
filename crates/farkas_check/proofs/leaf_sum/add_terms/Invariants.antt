use Rattle.std.proofs.Common.{◌≡◌, length, take}
use Rattle.farkas_check.specs.Sums.{AreColumnsAdded}
use Rattle.farkas_check.proofs.leaf_sum.add_terms.Given as goal

abbrev pub invariant-loop-unknown : goal.invariant-loop-unknown
invariant-loop-unknown l = record {
  size : length l.numbers ≡ length l.initial.numbers;
  added : AreColumnsAdded l.initial.numbers (take l.unknown-index l.terms) l.by l.numbers;
}
