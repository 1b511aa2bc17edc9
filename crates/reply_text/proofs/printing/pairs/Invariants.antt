use Rattle.std.proofs.Common.{◌≡◌, ◌++◌, map, take}
use Rattle.reply_text.specs.Replies.{pair_text, spaced}
use Rattle.reply_text.proofs.printing.pairs.Given as goal

-- the texts of the pairs so far
abbrev pub invariant-loop-at : goal.invariant-loop-at
invariant-loop-at l = l.text.items ≡ l.fn.text.items ++ spaced (map pair_text (take l.at l.pairs))
