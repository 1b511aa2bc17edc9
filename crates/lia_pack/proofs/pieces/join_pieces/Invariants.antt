use Rattle.std.proofs.Common.{◌≡◌, drop, ◌++◌}
use Rattle.lia_pack.specs.Shares.{joined}
use Rattle.lia_pack.proofs.pieces.join_pieces.Given as goal

abbrev pub invariant-loop-piece : goal.invariant-loop-piece
invariant-loop-piece l = l.bytes.items ++ joined l.rest (drop l.piece-index l.pieces) l.left ≡ joined l.below l.pieces l.fresh
