use Rattle.std.proofs.Common.{drop}
use Rattle.sv_word.proofs.ComplementLemmas.{IsComplementing}
use Rattle.sv_word.proofs.ranges.Ranges.complement.Given as goal

abbrev pub invariant-loop-pair : goal.invariant-loop-pair
invariant-loop-pair l = IsComplementing l.pair-items l.pairs.items (drop l.pair-index l.pair-items) l.from
