use Rattle.std.proofs.Common.{◌≡◌, take}
use Rattle.std.specs.List.{All, flat_map}
use Rattle.sv_word.specs.Cuts.{borders_of}
use Rattle.sv_word.specs.Ranges.{IsApartFrom}
use Rattle.sv_word.proofs.pieces.sorted_borders.Given as goal

abbrev pub invariant-loop-ranges : goal.invariant-loop-ranges
invariant-loop-ranges l = record {
  borders : l.borders.items ≡ flat_map borders_of (take l.ranges-index l.list);
  apart : All (IsApartFrom 0) (take l.ranges-index l.list);
}
