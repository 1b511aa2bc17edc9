use Rattle.sv_word.proofs.CutLemmas.{IsCutting}
use Rattle.sv_word.proofs.pieces.cuts.Given as goal

abbrev pub invariant-loop-border : goal.invariant-loop-border
invariant-loop-border l = IsCutting l.border-items l.border-index l.from l.pieces.items
