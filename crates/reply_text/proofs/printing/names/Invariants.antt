use Rattle.std.proofs.Common.{◌≡◌, ◌++◌, map, take}
use Rattle.reply_text.specs.Replies.{entry_text, spaced}
use Rattle.reply_text.proofs.printing.names.Given as goal

-- the names so far
abbrev pub invariant-loop-at : goal.invariant-loop-at
invariant-loop-at g l = l.text.items ≡ l.fn.text.items ++ spaced (map entry_text (take l.at l.entries))
