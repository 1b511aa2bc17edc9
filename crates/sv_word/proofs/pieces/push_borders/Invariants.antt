use Rattle.std.proofs.Common.{◌≡◌, ◌++◌, take}
use Rattle.sv_word.specs.Cuts.{borders_of}
use Rattle.sv_word.proofs.pieces.push_borders.Given as goal

abbrev pub invariant-loop-pair : goal.invariant-loop-pair
invariant-loop-pair l = l.borders.items ≡ l.initial.borders.items ++ borders_of (take l.pair-index l.pair-items)
