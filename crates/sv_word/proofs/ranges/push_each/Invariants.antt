use Rattle.std.proofs.Common.{◌≡◌, take}
use Rattle.std.specs.Prelude.{fold}
use Rattle.sv_word.specs.Ranges.{RangesEndBy, with_joined}
use Rattle.sv_word.proofs.ranges.push_each.Given as goal
use Rattle.sv_word.specs.Words.{greatest_character}

abbrev pub invariant-loop-pair : goal.invariant-loop-pair
invariant-loop-pair l = record {
  ends : RangesEndBy greatest_character l.pairs.items;
  joined : l.pairs.items ≡ fold with_joined l.initial.pairs.items (take l.pair-index l.more);
}
